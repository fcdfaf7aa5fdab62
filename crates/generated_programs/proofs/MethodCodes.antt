-- The codes of generated methods keep to the rules of admission.
use Rattle.std.proofs.Common.{◌≡◌, ℕ, ◌<◌, ◌^◌, List, None, Some, refl, lit<}
use Rattle.std.specs.List.{AllByRecursion}
use Rattle.const_pool.specs.declared.pool.Const.{Const}
use Rattle.const_pool.specs.declared.descriptor.Kind.TheVariants as kind
use Rattle.op_table.specs.Opcodes.{row_of, groups}
use Rattle.program_gen.specs.declared.rows.Choices.{Choices}
use Rattle.program_gen.specs.declared.rows.ClassName.{ClassName}
use Rattle.program_gen.specs.declared.rows.ClassName.TheVariants.{System, PrintStream, Numbered}
use Rattle.program_gen.specs.Programs.{constructor_code, run_code, entry_code}
use Rattle.code_admission.specs.Codes as codes
use Rattle.generated_programs.proofs.Forms.{instrs_of}
use Rattle.generated_programs.proofs.CodeRead.{IsFormed, HaveNamed}
use Rattle.generated_programs.proofs.FineInstructions.{IsFine, new-fine, initializer-fine, run-fine, println-fine, out-fine}

-- ---- each has the form of its opcode

pub constructor-formed : (above : ClassName) → AllByRecursion IsFormed (constructor_code above)
unfolding row_of groups
constructor-formed above = (refl, (refl, (refl, tt)))

pub run-formed : (c : Choices) → c.factor < 2 ^ 16 → c.addend < 2 ^ 16 → AllByRecursion IsFormed (run_code c)
unfolding row_of groups
run-formed c factor addend = (refl, ((refl, lit< tt), (refl, (refl, (refl, (refl, (refl, (refl, ((refl, factor), (refl, ((refl, addend), (refl, (refl, (refl, (refl, (refl, (refl, (refl, (refl, (refl, (refl, (refl, (refl, (refl, (refl, (refl, tt))))))))))))))))))))))))))

pub entry-formed : AllByRecursion IsFormed entry_code
unfolding row_of groups
entry-formed = (refl, (refl, (refl, (refl, (refl, (refl, (refl, (refl, (refl, tt)))))))))

-- ---- and has no fault

pub constructor-fine : (pool : List Const) (above : ClassName) (index : ℕ → ℕ) → HaveNamed pool (constructor_code above) index
    → AllByRecursion (IsFine (codes.method_with pool None (instrs_of 0 (constructor_code above) index) 1)) (instrs_of 0 (constructor_code above) index)
unfolding row_of groups
constructor-fine pool above index h =
    let m = codes.method_with pool None (instrs_of 0 (constructor_code above) index) 1 in (
      record { fits = refl; whole = refl },
      (
        initializer-fine m _ _ above h.1.0,
        (record { fits = refl; whole = refl }, tt),
      ),
    )

pub run-codes-fine : (pool : List Const) (c : Choices) (index : ℕ → ℕ) → HaveNamed pool (run_code c) index
    → AllByRecursion (IsFine (codes.method_with pool (Some kind.Int) (instrs_of 0 (run_code c) index) 3)) (instrs_of 0 (run_code c) index)
unfolding row_of groups
run-codes-fine pool c index h =
    let m = codes.method_with pool (Some kind.Int) (instrs_of 0 (run_code c) index) 3 in (
      record { fits = refl; whole = refl },
      (
        record { fits = refl; whole = refl },
        (
          record { fits = refl; whole = refl },
          (
            record { fits = refl; whole = refl },
            (
              new-fine m _ _ (Numbered c.left) h.1.1.1.1.0,
              (
                record { fits = refl; whole = refl },
                (
                  initializer-fine m _ _ (Numbered c.left) h.1.1.1.1.1.1.0,
                  (
                    record { fits = refl; whole = refl },
                    (
                      record { fits = refl; whole = refl },
                      (
                        record { fits = refl; whole = refl },
                        (
                          record { fits = refl; whole = refl },
                          (
                            record { fits = refl; whole = refl },
                            (
                              record { fits = refl; whole = refl },
                              (
                                record { fits = refl; whole = refl },
                                (
                                  record { fits = refl; whole = refl },
                                  (
                                    run-fine m _ _ (Numbered 0) h.1.1.1.1.1.1.1.1.1.1.1.1.1.1.1.0,
                                    (
                                      new-fine m _ _ (Numbered c.right) h.1.1.1.1.1.1.1.1.1.1.1.1.1.1.1.1.0,
                                      (
                                        record { fits = refl; whole = refl },
                                        (
                                          initializer-fine m _ _ (Numbered c.right) h.1.1.1.1.1.1.1.1.1.1.1.1.1.1.1.1.1.1.0,
                                          (
                                            record { fits = refl; whole = refl },
                                            (
                                              record { fits = refl; whole = refl },
                                              (
                                                record { fits = refl; whole = refl },
                                                (
                                                  record { fits = refl; whole = refl },
                                                  (
                                                    run-fine m _ _ (Numbered 0) h.1.1.1.1.1.1.1.1.1.1.1.1.1.1.1.1.1.1.1.1.1.1.1.0,
                                                    (
                                                      record { fits = refl; whole = refl },
                                                      (record { fits = refl; whole = refl }, tt),
                                                    ),
                                                  ),
                                                ),
                                              ),
                                            ),
                                          ),
                                        ),
                                      ),
                                    ),
                                  ),
                                ),
                              ),
                            ),
                          ),
                        ),
                      ),
                    ),
                  ),
                ),
              ),
            ),
          ),
        ),
      ),
    )

pub entry-fine : (pool : List Const) (index : ℕ → ℕ) → HaveNamed pool entry_code index
    → AllByRecursion (IsFine (codes.method_with pool None (instrs_of 0 entry_code index) 1)) (instrs_of 0 entry_code index)
unfolding row_of groups
entry-fine pool index h =
    let m = codes.method_with pool None (instrs_of 0 entry_code index) 1 in (
      out-fine m _ _ System h.0,
      (
        new-fine m _ _ (Numbered 0) h.1.0,
        (
          record { fits = refl; whole = refl },
          (
            initializer-fine m _ _ (Numbered 0) h.1.1.1.0,
            (
              record { fits = refl; whole = refl },
              (
                record { fits = refl; whole = refl },
                (
                  run-fine m _ _ (Numbered 0) h.1.1.1.1.1.1.0,
                  (
                    println-fine m _ _ PrintStream h.1.1.1.1.1.1.1.0,
                    (record { fits = refl; whole = refl }, tt),
                  ),
                ),
              ),
            ),
          ),
        ),
      ),
    )

-- ---- control does not go on behind the last one

pub constructor-ends : (above : ClassName) (index : ℕ → ℕ) → codes.falls (instrs_of 0 (constructor_code above) index) ≡ None
unfolding row_of groups
constructor-ends above index = refl

pub run-ends : (c : Choices) (index : ℕ → ℕ) → codes.falls (instrs_of 0 (run_code c) index) ≡ None
unfolding row_of groups
run-ends c index = refl

pub entry-ends : (index : ℕ → ℕ) → codes.falls (instrs_of 0 entry_code index) ≡ None
unfolding row_of groups
entry-ends index = refl
