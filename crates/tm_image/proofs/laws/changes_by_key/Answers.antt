use Rattle.tm_image.proofs.Looking.{changed_at, entry_at_is, entry_changed_at}
use Rattle.tm_image.proofs.laws.changes_by_key.Goals as goal

pub returns-clause-changed : goal.returns-clause-changed
returns-clause-changed c = changed_at

pub returns-clause-entry : goal.returns-clause-entry
returns-clause-entry c = entry_at_is

pub returns-clause-changed_entry : goal.returns-clause-changed_entry
returns-clause-changed_entry c = entry_changed_at
