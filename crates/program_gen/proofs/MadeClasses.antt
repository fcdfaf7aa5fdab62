-- The class file of a row that fits is a class file.
use Rattle.std.proofs.Common.{◌≡◌, ℕ, true, ◌+◌, ◌*◌, ◌<◌, ◌≤◌, ◌^◌, inr, List, [], ◌∷◌, ◌++◌, length, refl, sym, ◌∙◌, subst, arith, lit<, lit≤}
use Rattle.std.specs.Prelude.{Result, Ok, Err, IfOk}
use Rattle.std.specs.List.{AllZip, flat_map}
use Rattle.std.proofs.lemmas.List.{length-append}
use Rattle.jf_bytes.specs.declared.error.NoMemory.{NoMemory}
use Rattle.const_pool.specs.declared.class.ClassFile.{ClassFile}
use Rattle.const_pool.specs.declared.pool.Const.TheVariants.{Gap}
use Rattle.const_pool.specs.Pool.{is_class, has_gaps, pool_bytes, u2}
use Rattle.const_pool.specs.ClassFile.{IsMember, IsMethodAttribute, IsClassFile, member_bytes}
use Rattle.program_gen.specs.declared.rows.ClassRow.{ClassRow}
use Rattle.program_gen.specs.declared.rows.MethodRow.{MethodRow}
use Rattle.class_making.specs.Making.{MembersMade}
use Rattle.program_gen.specs.Making.{class_shared, methods_from, class_file_of}
use Rattle.program_gen.specs.Generated.{IsShortFile, IsNamedBy, HasOwnPool}
use Rattle.program_gen.specs.Members.{HasCodeOf, HasCodesOf, HasMembersOf, IsMethodOf}
use Rattle.program_gen.specs.Names.{class_text}
use Rattle.program_gen.specs.Fits.{FitsClass}
use Rattle.program_gen.proofs.Pools.{zip-by, zip-each, names-at, good-bytes, good-gaps, good-pool, good-own, good-start}
use Rattle.program_gen.proofs.SharedNames.{then-grows, at-grown, class-added}
use Rattle.program_gen.proofs.SpelledCode.{class-named}
use Rattle.program_gen.proofs.MadeMethods.{IsMade, is-member, members-bytes, methods-grow, length-methods_from, has-method, has-code}

-- the class file of a pool, methods and the indices of its name and its superclass
abbrev file_with : MembersMade → ℕ → ℕ → ClassFile
file_with made this above = record {
  minor = 0;
  major = 49;
  pool = made.pool;
  access = 0x0021;
  this_class = this;
  super_class = above;
  interfaces = [];
  fields = [];
  methods = made.members;
  attributes = [];
}

pub record IsWell (row : ClassRow) : Type 0 where
  pub formed : IsClassFile (class_file_of row)
  pub gaps : has_gaps (class_file_of row).pool ≡ true
  pub count : length (class_file_of row).pool < 2 ^ 16
  pub short : IsShortFile (class_file_of row)
  pub named : IsNamedBy row (class_file_of row)
  pub members : HasMembersOf row (class_file_of row)
  pub codes : HasCodesOf row (class_file_of row)
  pub own_pool : HasOwnPool (class_file_of row)

-- a class with this pool and these methods has few bytes
short-file : (rows : List MethodRow) (made : MembersMade) → length rows ≤ 2 → length (pool_bytes made.pool) ≤ 2 + 258 * (((1 + 2) + 2) + 159 * length rows)
    → length made.members ≡ length rows → AllZip (IsMade made.pool) rows made.members → (this above : ℕ) → IsShortFile (file_with made this above)
short-file rows made few pool same each this above =
    let members = members-bytes made.pool rows made.members each in
    let methods = u2 (length made.members) ++ flat_map member_bytes made.members in
    let behind : length (methods ++ 0 ∷ 0 ∷ []) ≡ length methods + 2 = length-append methods (0 ∷ 0 ∷ []) in
    let all : length (pool_bytes made.pool ++ (0 ∷ 33 ∷ u2 this ++ (u2 above ++ (0 ∷ 0 ∷ 0 ∷ 0 ∷ methods ++ 0 ∷ 0 ∷ [])))) ≡ length (pool_bytes made.pool) + (10 + (length methods + 2)) =
    length-append (pool_bytes made.pool) _ ∙ omega (arith, behind) in
    omega (arith, few, pool, same, members, all)

pub class-holds : (row : ClassRow) → FitsClass row → IsWell row
unfolding class_file_of
class-holds row fits =
    let few = fits.few in
    let a = class-added 1 (Gap ∷ []) row.name good-start (omega arith) fits.itself in
    let this = class_shared (Gap ∷ []) row.name in
    let b = class-added (1 + 2) this.pool row.superclass a.added.grows.good (omega arith) fits.above in
    let above = class_shared this.pool row.superclass in
    let m = methods-grow row.methods [] ((1 + 2) + 2) above.pool [] b.added.grows.good (omega (arith, few)) tt fits.each in
    let made = methods_from above.pool [] row.methods in
    let last_two = then-grows (1 + 2) 2 (159 * length row.methods) _ _ _ b.added.grows m.grows in
    let length_is = length-methods_from row.methods above.pool [] in
    let total = ((1 + 2) + 2) + 159 * length row.methods in
    let good = m.grows.good in
    let count = good.count in
    record {
      formed = record {
        version = record { fits = lit< tt; least = lit≤ tt; most = lit≤ tt };
        pool = good-pool total made.pool (omega (arith, few)) good;
        access = lit< tt;
        this_index = a.added.small;
        this_class = names-at is_class made.pool this.index _ (at-grown (1 + 2) (2 + 159 * length row.methods) _ _ this.index _ last_two a.added.at) refl;
        super_index = b.added.small;
        super_class = inr (names-at is_class made.pool above.index _ (at-grown ((1 + 2) + 2) (159 * length row.methods) _ _ above.index _ m.grows b.added.at) refl);
        interface_count = lit< tt;
        interfaces = tt;
        field_count = lit< tt;
        fields = tt;
        method_count = omega (arith, few, length_is);
        methods = zip-each (IsMade made.pool) (IsMember IsMethodAttribute made.pool) (is-member made.pool) row.methods made.members m.each;
        attribute_count = lit< tt;
        attributes = tt;
      };
      gaps = good-gaps total made.pool good;
      count = omega (arith, few, count);
      short = short-file row.methods made few (good-bytes total made.pool good) (omega (arith, length_is)) m.each this.index above.index;
      named = record {
        name = class-named made.pool this.index a.name (class_text row.name) (at-grown (1 + 2) (2 + 159 * length row.methods) _ _ this.index _ last_two a.added.at)
            (at-grown (1 + 2) (2 + 159 * length row.methods) _ _ a.name _ last_two a.named);
        above = class-named made.pool above.index b.name (class_text row.superclass) (at-grown ((1 + 2) + 2) (159 * length row.methods) _ _ above.index _ m.grows b.added.at)
            (at-grown ((1 + 2) + 2) (159 * length row.methods) _ _ b.name _ m.grows b.named);
      };
      members = record {
        minor = refl;
        major = refl;
        access = refl;
        interfaces = refl;
        fields = refl;
        methods = zip-by (IsMade made.pool) (IsMethodOf made.pool) (has-method made.pool) row.methods made.members m.each;
        attributes = refl;
      };
      codes = zip-by (IsMade made.pool) (HasCodeOf made.pool) (has-code made.pool) row.methods made.members m.each;
      own_pool = record { few = omega (arith, few, count); own = good-own total made.pool good };
    }

pub result-formed : (r : Result ClassFile NoMemory) (row : ClassRow) → IfOk r (λ c. c ≡ class_file_of row) → IsWell row → IfOk r IsClassFile
result-formed (Ok c) row e well = subst IsClassFile (sym e) well.formed
result-formed (Err x) row e well = tt
