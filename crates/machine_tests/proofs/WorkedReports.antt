-- What a report says of each ending, of a tree and of sums, over a program of one class.
use Rattle.std.proofs.Common.{◌≡◌, ℕ, Bool, true, false, List, [], ◌∷◌, ◌++◌, Some, None, refl, map, codes, pos, negsuc}
use Rattle.std.specs.Prelude.{Option}
use Rattle.std.specs.Char.{encode_utf8}
use Rattle.std.specs.Char.Utf16.{utf16_chars}
use Rattle.std.specs.Fmt.{digits}
use Rattle.const_pool.specs.declared.class.ClassFile.{ClassFile}
use Rattle.const_pool.specs.declared.class.Member.{Member}
use Rattle.const_pool.specs.declared.pool.Const.TheVariants.{Gap, Utf8, Class}
use Rattle.jvm_model.specs.declared.ending.Ending.{Ending}
use Rattle.jvm_model.specs.declared.ending.Ending.TheVariants.{Returned, Exited, Uncaught, Unverifiable}
use Rattle.jvm_model.specs.declared.program.Program.{Program}
use Rattle.jvm_model.specs.Profiling.Paths.{Context}
use Rattle.profile_report.specs.Reports.{report_text}

abbrev member : ℕ → ℕ → Member
member name descriptor = record { access = 9; name = name; descriptor = descriptor; attributes = [] }

-- the methods f, main and g
abbrev class : List ℕ → ClassFile
class name = record {
  minor = 0;
  major = 50;
  pool = Gap ∷ Utf8 name ∷ Class 1 ∷ Utf8 (codes "f") ∷ Utf8 (codes "(I)I") ∷ Utf8 (codes "main") ∷ Utf8 (codes "([Ljava/lang/String;)V") ∷ Utf8 (codes "g") ∷ [];
  access = 33;
  this_class = 2;
  super_class = 0;
  interfaces = [];
  fields = [];
  methods = member 3 4 ∷ member 5 6 ∷ member 7 4 ∷ [];
  attributes = [];
}

abbrev program : List ℕ → Program
program name = record {
  classes = class name ∷ [];
  methods = record { class = 0; position = 0 } ∷ record { class = 0; position = 1 } ∷ record { class = 0; position = 2 } ∷ [];
  main = 1;
  acts = [];
  args = [];
  heap = 4194304;
}

-- f is a root, and no step was made in it
abbrev reported : Option Ending → List ℕ
reported ending = report_text (program (codes "P1")) ending 3 1 false (record { path = 0 ∷ []; calls = 1; own = 0 } ∷ [])

abbrev behind : List ℕ → List ℕ
behind ending = codes "ending " ++ (ending ++ codes "\nsteps 3\nswaps 1\ntree\n1 0 0 P1.f(I)I\n")

endings : map reported (None ∷ Some Returned ∷ Some (Exited (negsuc 0)) ∷ Some (Exited (pos 2147483647)) ∷ Some (Uncaught 0) ∷ Some (Unverifiable 1 3) ∷ [])
    ≡ map behind (codes "budget" ∷ codes "returned" ∷ codes "exit -1" ∷ codes "exit 2147483647" ∷ codes "uncaught P1" ∷ codes "unverifiable P1.main([Ljava/lang/String;)V 3" ∷ [])
unfolding digits utf16_chars encode_utf8
endings = refl

-- a name with a pair of surrogates and one without a partner, a letter of two bytes, and a zero
abbrev surrogates : List ℕ
surrogates = 65 ∷ 0xD83D ∷ 0xDE00 ∷ 0xDE00 ∷ 0xE9 ∷ 0 ∷ []

sums : report_text (program surrogates) (Some (Uncaught 0)) 12 2 true (record { path = 1 ∷ []; calls = 1; own = 7 } ∷ record { path = 1 ∷ 0 ∷ []; calls = 1; own = 4 } ∷ [])
    ≡ codes "ending uncaught A" ++ (0xF0 ∷ 0x9F ∷ 0x98 ∷ 0x80 ∷ 63 ∷ 0xC3 ∷ 0xA9 ∷ 0 ∷ codes "\nsteps 12\nswaps 2\ncontexts 2\ncalls 2\nown 11\n")
unfolding digits utf16_chars encode_utf8
sums = refl

-- each level is two spaces deeper
levels : report_text (program (codes "P1")) None 9 0 false (record { path = 1 ∷ []; calls = 1; own = 5 } ∷ record { path = 1 ∷ 0 ∷ []; calls = 2; own = 4 } ∷ record { path = 1 ∷ 0 ∷ 2 ∷ []; calls = 1; own = 10 } ∷ [])
    ≡ codes "ending budget\nsteps 9\nswaps 0\ntree\n1 5 19 P1.main([Ljava/lang/String;)V\n  2 4 14 P1.f(I)I\n    1 10 10 P1.g(I)I\n"
unfolding digits utf16_chars encode_utf8
levels = refl
