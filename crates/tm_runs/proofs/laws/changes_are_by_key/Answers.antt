use Rattle.tm_runs.proofs.Keyed.{ChangesByKey-holds, KeysAreNumbers-holds}
use Rattle.tm_runs.proofs.laws.changes_are_by_key.Goals as goal

pub returns : goal.returns
returns c = record { changes = ChangesByKey-holds; numbers = KeysAreNumbers-holds }
