use Rattle.jfluid_cli.proofs.Reports.Shown.{shown-behind}
use Rattle.jfluid_cli.proofs.images.show.Goals as goal

pub returns-in-Ok-put_images-clause-shown : goal.returns-in-Ok-put_images-clause-shown
returns-in-Ok-put_images-clause-shown g c =
    shown-behind c.give_report.result c.args.summary c.args.asked c.gather.new.session _ _ _ _ _ c.in-Ok-put_images.ensures.all
    c.give_report.ensures.reported
