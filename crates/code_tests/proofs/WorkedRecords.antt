-- Records of events byte by byte, each behind an event of the clock that is named first.
use Rattle.std.proofs.Common.{◌≡◌, ℕ, ◌/◌, ◌%◌, ◌+◌, ◌≤◌, List, [], ◌∷◌, ◌++◌, drop, refl, ap, ◌∙◌, arith}
use Rattle.jvm_model.specs.declared.event.EventKind.TheVariants.{Root, Enter, Leave, Unwind}
use Rattle.event_buffer.specs.Records.{record_of, leb128}
use Rattle.event_buffer.proofs.Leb128.{leb128-small, leb128-large}

root_record : record_of 0 (record { kind = Root; method = 0; clock = 3 }) ≡ 0 ∷ 0 ∷ 3 ∷ []
unfolding leb128
root_record = refl

leave_record : record_of 3 (record { kind = Leave; method = 0; clock = 7 }) ≡ 2 ∷ 0 ∷ 4 ∷ []
unfolding leb128
leave_record = refl

enter_record : record_of 7 (record { kind = Enter; method = 300; clock = 7 }) ≡ 1 ∷ 0xAC ∷ 2 ∷ 0 ∷ []
unfolding leb128
enter_record = refl

-- ---- the longest

-- of two bytes or more
more : (n : ℕ) (rest : List ℕ) → 128 ≤ n → leb128 (n / 128) ≡ rest → leb128 n ≡ (n % 128 + 128) ∷ rest
more n rest large e = leb128-large n large ∙ ap (λ bytes. (n % 128 + 128) ∷ bytes) e

abbrev greatest_narrow : List ℕ
greatest_narrow = 0xFF ∷ 0xFF ∷ 0xFF ∷ 0xFF ∷ 0x0F ∷ []

narrow : leb128 4294967295 ≡ greatest_narrow
narrow =
    more 4294967295 (0xFF ∷ 0xFF ∷ 0xFF ∷ 0x0F ∷ []) (omega arith) (more 33554431 (0xFF ∷ 0xFF ∷ 0x0F ∷ []) (omega arith)
    (more 262143 (0xFF ∷ 0x0F ∷ []) (omega arith) (more 2047 (0x0F ∷ []) (omega arith) (leb128-small 15 (omega arith)))))

abbrev greatest_wide : List ℕ
greatest_wide = 0xFF ∷ 0xFF ∷ 0xFF ∷ 0xFF ∷ 0xFF ∷ 0xFF ∷ 0xFF ∷ 0xFF ∷ 0xFF ∷ 1 ∷ []

wide : leb128 18446744073709551615 ≡ greatest_wide
wide =
    more 18446744073709551615 (drop 1 greatest_wide) (omega arith) (more 144115188075855871 (drop 2 greatest_wide) (omega arith)
    (more 1125899906842623 (drop 3 greatest_wide) (omega arith) (more 8796093022207 (drop 4 greatest_wide) (omega arith)
    (more 68719476735 (drop 5 greatest_wide) (omega arith) (more 536870911 (drop 6 greatest_wide) (omega arith)
    (more 4194303 (drop 7 greatest_wide) (omega arith) (more 32767 (drop 8 greatest_wide) (omega arith)
    (more 255 (1 ∷ []) (omega arith) (leb128-small 1 (omega arith))))))))))

longest_record : record_of 0 (record { kind = Unwind; method = 4294967295; clock = 18446744073709551615 }) ≡ 3 ∷ (greatest_narrow ++ greatest_wide)
longest_record = ap (λ bytes. 3 ∷ (bytes ++ leb128 18446744073709551615)) narrow ∙ ap (λ bytes. 3 ∷ (greatest_narrow ++ bytes)) wide
