-- The pool tail: what a rewritten class has behind the entries of its own. It names the probe class with its four
-- methods, java/lang/Throwable, and the attribute StackMapTable.
use Rattle.std.specs.Prelude.{ℕ, ◌+◌, List, [], ◌∷◌, ◌++◌, length, codes}
use Rattle.const_pool.specs.declared.pool.Const.{Const}
use Rattle.const_pool.specs.declared.pool.Const.TheVariants.{Utf8, Class, Method, NameType}

-- the indices that a rewritten class uses, behind so many entries
abbrev pub root_index : ℕ → ℕ
root_index count = count + 5

abbrev pub enter_index : ℕ → ℕ
enter_index count = count + 8

abbrev pub leave_index : ℕ → ℕ
leave_index count = count + 11

abbrev pub unwind_index : ℕ → ℕ
unwind_index count = count + 14

abbrev pub throwable_index : ℕ → ℕ
throwable_index count = count + 16

abbrev pub frames_index : ℕ → ℕ
frames_index count = count + 17

-- a probe behind so many entries and `at` of the tail: its name, that with the probes' descriptor, and the method of the
-- probes' class
abbrev pub probe_entries : ℕ → List ℕ → ℕ → List Const
probe_entries count name at = Utf8 name ∷ NameType (count + at) (count + 2) ∷ Method (count + 1) (count + (at + 1)) ∷ []

-- the eighteen entries behind so many
abbrev pub tail_entries : ℕ → List Const
tail_entries count =
    Utf8 (codes "jfluid/Probe") ∷ Class count ∷ Utf8 (codes "(I)V")
    ∷ Utf8 (codes "root") ∷ NameType (count + 3) (count + 2) ∷ Method (count + 1) (count + 4)
    ∷ Utf8 (codes "enter") ∷ NameType (count + 6) (count + 2) ∷ Method (count + 1) (count + 7)
    ∷ Utf8 (codes "leave") ∷ NameType (count + 9) (count + 2) ∷ Method (count + 1) (count + 10)
    ∷ Utf8 (codes "unwind") ∷ NameType (count + 12) (count + 2) ∷ Method (count + 1) (count + 13)
    ∷ Utf8 (codes "java/lang/Throwable") ∷ Class (count + 15) ∷ Utf8 (codes "StackMapTable") ∷ []

abbrev pub with_tail : List Const → List Const
with_tail pool = pool ++ tail_entries (length pool)
