use Rattle.tm_changes.proofs.with_data.plan_with_data.Goals as goal

pub returns-in-Fix : goal.returns-in-Fix
returns-in-Fix c = λ bytes. c.plan_fixed.ensures bytes c.args.moment
