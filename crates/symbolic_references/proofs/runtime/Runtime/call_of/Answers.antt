use Rattle.symbolic_references.proofs.PassingLemmas.{call-of, native-of}
use Rattle.symbolic_references.proofs.runtime.Runtime.call_of.Goals as goal

pub returns-in-Code : goal.returns-in-Code
returns-in-Code c =
    let fs = c.args.frames.now.frames in
    call-of c.args.self.now.world c.args.self.now.shared fs c.args.target c.in-Some.m c.in-Code.method c.in-Some.is c.in-Code.is
    c.requires.within c.requires.callee

pub returns-in-Native : goal.returns-in-Native
returns-in-Native c =
    let fs = c.args.frames.now.frames in
    native-of c.args.self.now.world c.args.self.now.shared fs c.args.target c.in-Some.m c.in-Native.number c.in-Some.is c.in-Native.is
    c.requires.within c.requires.callee
