-- The built-in classes are sound.
use Rattle.std.proofs.Common.{◌≡◌, ℕ, Bool, true, List, [], ◌++◌, Result, Ok, Err, IsTrue, is_ok, refl, sym, subst}
use Rattle.std.specs.Prelude.{◌&&◌}
use Rattle.std.specs.List.{list_all, AllByRecursion}
use Rattle.std.proofs.lemmas.Bool.{and_parts}
use Rattle.const_pool.specs.declared.descriptor.Kind.{Kind}
use Rattle.const_pool.specs.declared.descriptor.Shape.{Shape}
use Rattle.const_pool.specs.Descriptors.{IsFieldText, IsMethodText}
use Rattle.const_pool.specs.Stages.{field_answer, method_answer}
use Rattle.const_pool.proofs.FieldTexts.{field_found}
use Rattle.const_pool.proofs.MethodTexts.{method_found}
use Rattle.base_classes.specs.Declarations.{MemberDeclaration, ClassDeclaration}
use Rattle.base_classes.specs.BuiltInClasses.{built_in_classes}
use Rattle.base_classes.specs.ObjectClasses.{object_classes}
use Rattle.base_classes.specs.TextClasses.{text_classes}
use Rattle.base_classes.specs.StreamClasses.{stream_classes}
use Rattle.base_classes.specs.ValueClasses.{value_classes}
use Rattle.base_classes.specs.ThrowableClasses.{throwable_classes}
use Rattle.base_classes.specs.Soundness.{IsSound, is_class_name, has_one_body, all_differ, is_without_float, in_order}
use Rattle.base_classes.proofs.WellFormed.{each}

abbrev is_field : MemberDeclaration → Bool
is_field m = is_ok (field_answer m.descriptor)

abbrev is_method : MemberDeclaration → Bool
is_method m = is_ok (method_answer m.descriptor)

field_text : (text : List ℕ) (answer : Result Kind ℕ) → field_answer text ≡ answer → is_ok answer ≡ true → IsFieldText text
field_text text (Ok kind) is h = (kind, field_found text (Ok kind) (rw is refl))
field_text text (Err at) is h = absurd cc

method_text : (text : List ℕ) (answer : Result Shape ℕ) → method_answer text ≡ answer → is_ok answer ≡ true → IsMethodText text
method_text text (Ok shape) is h = (shape, method_found text (Ok shape) is)
method_text text (Err at) is h = absurd cc

unfoldable is_sound : ClassDeclaration → Bool
is_sound d =
    is_class_name d.name
    && ((list_all is_field d.fields && list_all is_method d.methods)
    && ((list_all has_one_body d.methods && (all_differ d.fields && all_differ d.methods))
    && list_all is_without_float (d.fields ++ d.methods)))

sound_holds : (d : ClassDeclaration) → is_sound d ≡ true → IsSound d
unfolding is_sound
sound_holds d h =
    let a = and_parts _ _ h in
    let b = and_parts _ _ a.1 in
    let texts = and_parts _ _ b.0 in
    let c = and_parts _ _ b.1 in
    let e = and_parts _ _ c.0 in
    let differ = and_parts _ _ e.1 in
    record {
      name = a.0;
      fields = each is_field (λ m. IsFieldText m.descriptor) (λ m h. field_text m.descriptor (field_answer m.descriptor) refl h) d.fields texts.0;
      methods = each is_method (λ m. IsMethodText m.descriptor) (λ m h. method_text m.descriptor (method_answer m.descriptor) refl h) d.methods texts.1;
      bodies = e.0;
      fields_differ = differ.0;
      methods_differ = differ.1;
      no_float = c.1;
    }

are_sound : list_all is_sound built_in_classes ≡ true
unfolding is_sound built_in_classes object_classes text_classes stream_classes value_classes throwable_classes
are_sound = refl

are_in_order : in_order [] built_in_classes ≡ true
unfolding built_in_classes object_classes text_classes stream_classes value_classes throwable_classes
are_in_order = refl

pub all_sound : (ds : List ClassDeclaration) → ds ≡ built_in_classes → AllByRecursion IsSound ds
all_sound ds e = each is_sound IsSound sound_holds ds (subst (λ ds. list_all is_sound ds ≡ true) (sym e) are_sound)

pub all_in_order : (ds : List ClassDeclaration) → ds ≡ built_in_classes → IsTrue (in_order [] ds)
all_in_order ds e = subst (λ ds. in_order [] ds ≡ true) (sym e) are_in_order
