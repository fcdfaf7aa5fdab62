-- How long the parts of a class file are.
use Rattle.std.proofs.Common.{◌≡◌, ℕ, ◌+◌, ◌*◌, ◌<◌, ◌≤◌, List, [], ◌∷◌, ◌++◌, length, take, get_or, refl, ap, ◌∙◌, arith}
use Rattle.std.specs.List.{flat_map}
use Rattle.std.proofs.lemmas.List.{length-append}
use Rattle.std.proofs.lemmas.List.Concat.{flat_map-cons}
use Rattle.std.proofs.lemmas.List.Folds.{length-flat_map-take}
use Rattle.const_pool.specs.declared.class.ClassFile.{ClassFile}
use Rattle.const_pool.specs.declared.class.CodeAttribute.{CodeAttribute}
use Rattle.const_pool.specs.Pool.{u2, entry_bytes, pool_bytes}
use Rattle.const_pool.specs.ClassFile.{items_counted, raw_bytes, handler_bytes, code_bytes, attribute_bytes, member_bytes, class_bytes}
use Rattle.class_writer.specs.Parts.{itself_bytes}

-- what was counted and the next item are within the whole
pub within : {A : Type 0} (f : A → List ℕ) (xs : List A) (i : ℕ) (x : A) → i < length xs → x ≡ get_or xs i x → length (flat_map f (take i xs)) + length (f x) ≤ length (flat_map f xs)
within f xs i x lt is =
    let all = length-flat_map-take f xs i x lt in
    let here : length (f x) ≡ length (f (get_or xs i x)) = ap (λ y. length (f y)) is in
    omega (arith, all, here)

-- as many bytes as so many for each item
each_long : {A : Type 0} (f : A → List ℕ) (n : ℕ) (xs : List A) → ((x : A) → length (f x) ≡ n) → length (flat_map f xs) ≡ n * length xs
each_long f n [] each = omega arith
each_long f n (x ∷ xs) each =
    ap length (flat_map-cons f x xs) ∙ length-append (f x) (flat_map f xs) ∙ (let rest = each_long f n xs each in let first = each x in omega (arith, first, rest))

pub code_length : (c : CodeAttribute) → length (code_bytes c) ≡ 12 + length c.code + 8 * length c.handlers + length (flat_map raw_bytes c.attributes)
code_length c =
    let handlers = each_long handler_bytes 8 c.handlers (λ h. refl) in
    let whole = length-append c.code (items_counted handler_bytes c.handlers ++ items_counted raw_bytes c.attributes) in
    let back = length-append (flat_map handler_bytes c.handlers) (items_counted raw_bytes c.attributes) in
    omega (arith, handlers, whole, back)

pub class_length : (c : ClassFile) → length (class_bytes c) ≡ 14 + length (pool_bytes c.pool) + (2 + 2 * length c.interfaces) + length (items_counted member_bytes c.fields) + length (items_counted member_bytes c.methods) + length (items_counted attribute_bytes c.attributes)
class_length c =
    let attributes = items_counted attribute_bytes c.attributes in
    let methods = items_counted member_bytes c.methods ++ attributes in
    let fields = items_counted member_bytes c.fields ++ methods in
    let body = items_counted u2 c.interfaces ++ fields in
    let indices = each_long u2 2 c.interfaces (λ i. refl) in
    let pool = length-append (flat_map entry_bytes c.pool) (itself_bytes c ++ body) in
    let from_interfaces = length-append (items_counted u2 c.interfaces) fields in
    let from_fields = length-append (items_counted member_bytes c.fields) methods in
    let from_methods = length-append (items_counted member_bytes c.methods) attributes in
    omega (arith, indices, pool, from_interfaces, from_fields, from_methods)
