-- Descriptors with what the JVM Specification, 4.3, has them mean, or the first unit that can't go on. That an answer is
-- what the grammar says are `field_found`, `field_stuck`, `method_found` and `method_stuck` of const_pool.
use Rattle.std.proofs.Common.{◌≡◌, ℕ, List, [], ◌∷◌, ◌++◌, Some, None, refl, codes}
use Rattle.std.specs.Prelude.{Result, Ok, Err, is_ok, true, replicate}
use Rattle.std.specs.Result.{result_err}
use Rattle.std.specs.List.{flat_map}
use Rattle.const_pool.specs.declared.descriptor.Kind.{Kind}
use Rattle.const_pool.specs.declared.descriptor.Kind.TheVariants.{Int, Long, Ref, Byte, Bool, Char, Short, Float, Double}
use Rattle.const_pool.specs.Stages.{field_answer, method_answer}

-- ---- of methods

nothing : method_answer (codes "()V") ≡ Ok (record { params = []; result = None })
nothing = refl

class_result : method_answer (codes "(J[[I)Ljava/lang/String;") ≡ Ok (record { params = Long ∷ Ref ∷ []; result = Some Ref })
class_result = refl

all_kinds : method_answer (codes "(BCDFISZLA;[Z)J")
    ≡ Ok (record { params = Byte ∷ Char ∷ Double ∷ Float ∷ Int ∷ Short ∷ Bool ∷ Ref ∷ Ref ∷ []; result = Some Long })
all_kinds = refl

void_param : method_answer (codes "(V)V") ≡ Err 1
void_param = refl

empty : method_answer [] ≡ Err 0
empty = refl

void_alone : method_answer (codes "V") ≡ Err 0
void_alone = refl

unclosed : method_answer (codes "(I") ≡ Err 2
unclosed = refl

no_result : method_answer (codes "()") ≡ Err 2
no_result = refl

two_results : method_answer (codes "()VV") ≡ Err 3
two_results = refl

array_of_void : method_answer (codes "()[V") ≡ Err 3
array_of_void = refl

no_name : method_answer (codes "(L;)V") ≡ Err 2
no_name = refl

open_name : method_answer (codes "(Lx)V") ≡ Err 5
open_name = refl

array_of_nothing : method_answer (codes "([I]I") ≡ Err 3
array_of_nothing = refl

-- ---- of fields

int : field_answer (codes "I") ≡ Ok Int
int = refl

double : field_answer (codes "D") ≡ Ok Double
double = refl

array : field_answer (codes "[[J") ≡ Ok Ref
array = refl

class : field_answer (codes "Lx;") ≡ Ok Ref
class = refl

no_field : field_answer [] ≡ Err 0
no_field = refl

no_element : field_answer (codes "[") ≡ Err 1
no_element = refl

no_class_name : field_answer (codes "L;") ≡ Err 1
no_class_name = refl

open_class : field_answer (codes "Lx") ≡ Err 2
open_class = refl

void : field_answer (codes "V") ≡ Err 0
void = refl

two_ints : field_answer (codes "II") ≡ Err 1
two_ints = refl

two_ends : field_answer (codes "Lx;;") ≡ Err 3
two_ends = refl

-- ---- a parameter so many times, and what follows

abbrev many : List ℕ → ℕ → List ℕ → List ℕ
many param count rest = codes "(" ++ (flat_map (λ (text : List ℕ). text) (replicate count param) ++ rest)

ints : is_ok (method_answer (many (codes "I") 255 (codes ")V"))) ≡ true
ints = refl

long_last : is_ok (method_answer (many (codes "I") 253 (codes "J)V"))) ≡ true
long_last = refl

array_last : is_ok (method_answer (many (codes "I") 254 (codes "[J)V"))) ≡ true
array_last = refl

longs : is_ok (method_answer (many (codes "J") 127 (codes "I)V"))) ≡ true
longs = refl

arrays : is_ok (method_answer (many (codes "[J") 255 (codes ")J"))) ≡ true
arrays = refl

classes : is_ok (method_answer (many (codes "Lx;") 254 (codes "Lx;)V"))) ≡ true
classes = refl

-- the place of the unit for which no slot is left

int_too_many : method_answer (many (codes "I") 256 (codes ")V")) ≡ Err 256
int_too_many = refl

array_too_many : method_answer (many (codes "I") 255 (codes "[I)V")) ≡ Err 256
array_too_many = refl

long_too_wide : method_answer (many (codes "I") 254 (codes "J)V")) ≡ Err 255
long_too_wide = refl

double_too_wide : method_answer (many (codes "I") 254 (codes "D)V")) ≡ Err 255
double_too_wide = refl

long_too_many : method_answer (many (codes "J") 128 (codes ")V")) ≡ Err 128
long_too_many = refl

open_behind_all : method_answer (many (codes "I") 255 []) ≡ Err 256
open_behind_all = refl
