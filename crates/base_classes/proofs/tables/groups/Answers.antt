use Rattle.std.proofs.Common.{◌≡◌, List, [], ◌++◌, refl}
use Rattle.std.proofs.lemmas.List.{append-nil}
use Rattle.base_classes.specs.Declarations.{ClassDeclaration}
use Rattle.base_classes.specs.BuiltInClasses.{built_in_classes}
use Rattle.base_classes.specs.ObjectClasses.{object_classes}
use Rattle.base_classes.specs.TextClasses.{text_classes}
use Rattle.base_classes.specs.StreamClasses.{stream_classes}
use Rattle.base_classes.specs.ValueClasses.{value_classes}
use Rattle.base_classes.specs.ThrowableClasses.{throwable_classes}
use Rattle.base_classes.proofs.tables.groups.Goals as goal

joined : (o t s v h : List ClassDeclaration)
    → o ≡ object_classes → t ≡ text_classes → s ≡ stream_classes → v ≡ value_classes → h ≡ throwable_classes
    → o ++ (t ++ (s ++ (v ++ (h ++ [])))) ≡ built_in_classes
unfolding built_in_classes
joined o t s v h is_o is_t is_s is_v is_h = rw (append-nil, is_o, is_t, is_s, is_v, is_h) refl

pub returns : goal.returns
returns c = joined _ _ _ _ _ c.objects.ensures c.texts.ensures c.streams.ensures c.values.ensures c.throwables.ensures
