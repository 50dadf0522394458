use Rattle.std.proofs.Common.{◌∙◌, ◌++◌, ◌∷◌, [], ◌-◌, ℕ, List, slice_get, length, ap, sym, Option}
use Rattle.std.specs.Option.{option_map_or}
use Rattle.tm_reply.specs.declared.row.ReplyRow.{ReplyRow}
use Rattle.tm_reply.specs.declared.row.ReplyRow.TheVariants as row
use Rattle.tm_store_records.specs.declared.snapshot.Snapshot.{Snapshot}
use Rattle.tm_base.specs.declared.refused.LineFault.TheVariants.{Refused as RefusedFor}
use Rattle.tm_tree.specs.States.{StoreState, latest}
use Rattle.tm_machine.specs.Queries.{latest_path}
use Rattle.tm_machine.specs.Steps.{snapshot_tests}
use Rattle.tm_machine.proofs.Exits.{exit_is}
use Rattle.tm_machine.proofs.StoredLemmas.{no_store_answer, tells_latest}
use Rattle.tm_machine.proofs.session.Session.latest_backup.Goals as goal

pub returns-in_err-store : goal.returns-in_err-store
returns-in_err-store c o =
    let none = c.in_err-store.ensures.none in
    let why = c.in_err-store.field-0.0 in
    no_store_answer (λ store. snapshot_tests (latest store)) (λ (z : Option StoreState). option_map_or latest_path z []) c.args.self.now o why c.from_residual.result none.0 none.1 (exit_is c.from_residual.result (RefusedFor why) c.from_residual.ensures.1)

pub returns : goal.returns
returns c o =
    let h = c.in_ok-store.store.now in
    let xs = c.as_slice.ensures ∙ c.snapshots.ensures in
    tells_latest c.args.self.now h c.in-Some.snapshot.now c.push.new.self c.in_ok-store.ensures.store
    (sym (ap (λ (l : List Snapshot). slice_get l (length l - 1)) xs) ∙ sym c.in-Some.ensures.value)
    (c.in_ok-push.ensures.ok ∙ ap (λ (rows : List ReplyRow). rows ++ c.in_ok-snapshot_path.field-0 ∷ []) c.new-rows.ensures ∙ ap (λ (r : ReplyRow). r ∷ []) c.in_ok-snapshot_path.ensures
    ∙ ap (λ (m : List ℕ). row.SnapshotPath m c.in-Some.snapshot.now.date ∷ []) c.machine.ensures) o
