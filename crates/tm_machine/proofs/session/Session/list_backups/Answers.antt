use Rattle.std.proofs.Common.{◌∙◌, [], ℕ, List, Option, ap}
use Rattle.std.specs.Option.{option_map_or}
use Rattle.tm_store_records.specs.declared.snapshot.Snapshot.{Snapshot}
use Rattle.tm_machine.specs.Queries.{held_paths, snapshot_paths}
use Rattle.tm_base.specs.declared.refused.LineFault.TheVariants.{Refused as RefusedFor}
use Rattle.tm_tree.specs.States.{StoreState}
use Rattle.tm_machine.proofs.Exits.{exit_is}
use Rattle.tm_machine.proofs.StoredLemmas.{no_store_answer, tells_backups}
use Rattle.tm_machine.proofs.session.Session.list_backups.Goals as goal

pub returns-in_err-store : goal.returns-in_err-store
returns-in_err-store c o =
    let none = c.in_err-store.ensures.none in
    let why = c.in_err-store.field-0.0 in
    no_store_answer (λ store. []) (λ (z : Option StoreState). option_map_or snapshot_paths z []) c.args.self.now o why c.from_residual.result none.0 none.1 (exit_is c.from_residual.result (RefusedFor why) c.from_residual.ensures.1)

pub returns : goal.returns
returns c o =
    let h = c.in_ok-store.store.now in
    tells_backups c.args.self.now h c.in_ok-snapshot_paths.field-0 c.in_ok-store.ensures.store
    (c.in_ok-snapshot_paths.ensures ∙ ap (λ (xs : List Snapshot). held_paths c.machine.result.now xs) (c.as_slice.ensures ∙ c.snapshots.ensures) ∙ ap (λ (m : List ℕ). held_paths m h.snapshots) c.machine.ensures) o
