use Rattle.std.proofs.lemmas.Result.{IfOk-weaker}
use Rattle.base_classes.proofs.Computed.{all_declared, all_formed, all_bare}
use Rattle.base_classes.proofs.Sound.{all_sound, all_in_order}
use Rattle.base_classes.proofs.built_in.Goals as goal

pub returns-clause-declared : goal.returns-clause-declared
returns-clause-declared c = IfOk-weaker c.make_all.result _ _ (λ classes e. all_declared classes.items e) c.make_all.ensures

pub returns-clause-formed : goal.returns-clause-formed
returns-clause-formed c = IfOk-weaker c.make_all.result _ _ (λ classes e. all_formed classes.items e) c.make_all.ensures

pub returns-clause-bare : goal.returns-clause-bare
returns-clause-bare c = IfOk-weaker c.make_all.result _ _ (λ classes e. all_bare classes.items e) c.make_all.ensures

pub returns-clause-sound : goal.returns-clause-sound
returns-clause-sound c = IfOk-weaker c.make_all.result _ _ (λ classes e. all_sound _ (all_declared classes.items e)) c.make_all.ensures

pub returns-clause-ordered : goal.returns-clause-ordered
returns-clause-ordered c = IfOk-weaker c.make_all.result _ _ (λ classes e. all_in_order _ (all_declared classes.items e)) c.make_all.ensures
