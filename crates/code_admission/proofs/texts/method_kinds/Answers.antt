use Rattle.std.proofs.Common.{sym}
use Rattle.code_admission.proofs.Grammar.{method_kinds_only, method_refused}
use Rattle.code_admission.proofs.texts.method_kinds.Goals as goal

pub returns-in-Ok : goal.returns-in-Ok
returns-in-Ok c = sym (method_kinds_only c.args.text.now c.in-Ok.shape c.in-Ok.ensures.found)

pub returns-in-Err-BadDescriptor : goal.returns-in-Err-BadDescriptor
returns-in-Err-BadDescriptor c = method_refused c.args.text.now c.in-Err-BadDescriptor.field-0 c.in-Err-BadDescriptor.field-0-0 c.in-Err-BadDescriptor.field-0-is c.in-Err-BadDescriptor.ensures.only
