use Rattle.tm_changes.proofs.without_data.plan_without_data.Goals as goal

pub returns-in-Chmod : goal.returns-in-Chmod
returns-in-Chmod c = c.plan_attrs.ensures c.args.moment
