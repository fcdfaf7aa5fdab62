use Rattle.call_revelation.proofs.Revelations.Grown.{went-back}
use Rattle.call_revelation.proofs.reveal.Reveal.entered.Goals as goal

pub returns-in-Err-clause-revelation : goal.returns-in-Err-clause-revelation
returns-in-Err-clause-revelation c =
    went-back c.args.linker.now.program c.args.self.now c.enter.new.self c.go_back.new.self c.len-loaded.result c.len-targets.result c.requires.revelation
    c.in-Err.ensures.grown c.len-loaded.ensures c.len-targets.ensures c.go_back.ensures
