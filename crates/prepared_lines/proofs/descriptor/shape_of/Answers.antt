-- what is read and what is refused are what the grammar says
use Rattle.std.proofs.Common.{◌≡◌, ℕ, Err, sym, subst}
use Rattle.const_pool.specs.declared.descriptor.DescriptorError.{DescriptorError}
use Rattle.const_pool.specs.declared.descriptor.DescriptorError.TheVariants.{BadDescriptor}
use Rattle.const_pool.specs.declared.descriptor.Shape.{Shape}
use Rattle.const_pool.specs.Descriptors.{IsReadAs}
use Rattle.jvm_model.proofs.Running.Shapes.{method_read, no_shape, shape_grammar}
use Rattle.prepared_lines.proofs.descriptor.shape_of.Goals as goal

refused : (error : DescriptorError) (at : ℕ) (shape : Shape) → error ≡ BadDescriptor at → IsReadAs (Err error) shape → ⊥
refused error at shape is read = subst (λ (e : DescriptorError). IsReadAs (Err e) shape) is read

pub returns-in-Ok-clause-shape : goal.returns-in-Ok-clause-shape
returns-in-Ok-clause-shape c = sym (method_read c.args.descriptor.now c.in-Ok.shape c.in-Ok.ensures.found)

pub returns-in-Ok-clause-grammar : goal.returns-in-Ok-clause-grammar
returns-in-Ok-clause-grammar c = shape_grammar c.args.descriptor.now

pub returns-in-Err-BadDescriptor-clause-shape : goal.returns-in-Err-BadDescriptor-clause-shape
returns-in-Err-BadDescriptor-clause-shape c =
    let bad = c.in-Err-BadDescriptor in
    sym (no_shape c.args.descriptor.now (λ shape is. refused bad.field-0 bad.field-0-0 shape bad.field-0-is (bad.ensures.only shape is)))

pub returns-in-Err-BadDescriptor-clause-grammar : goal.returns-in-Err-BadDescriptor-clause-grammar
returns-in-Err-BadDescriptor-clause-grammar c = shape_grammar c.args.descriptor.now

pub returns-in-Err-NoMemory-clause-grammar : goal.returns-in-Err-NoMemory-clause-grammar
returns-in-Err-NoMemory-clause-grammar c = shape_grammar c.args.descriptor.now
