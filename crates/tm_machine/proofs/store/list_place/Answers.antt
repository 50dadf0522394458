use Rattle.std.proofs.Common.{rules, ◌≡◌, true, ◌∙◌, Some, Ok, ap, sym, subst}
use Rattle.tm_store_records.specs.Held.{store_on}
use Rattle.tm_text.specs.declared.place.StorePath.{StorePath}
use Rattle.tm_base.specs.declared.refused.Refused.TheVariants.{NoSnapshot}
use Rattle.tm_base.specs.Paths.{same_name}
use Rattle.tm_store.specs.Finding.{held_at}
use Rattle.tm_tree.specs.Refusing.{first_refused}
use Rattle.tm_machine.specs.Answers.{AnswersQuery}
use Rattle.tm_machine.specs.Queries.{held_machine, store_rows}
use Rattle.tm_machine.specs.Steps.{place_tests}
use Rattle.tm_machine.proofs.StoredLemmas.{machine_listed, snapshot_listed, snapshot_missing}
use Rattle.tm_machine.proofs.store.list_place.Goals as goal

pub returns-in_ok-machine_rows-in-Machine : goal.returns-in_ok-machine_rows-in-Machine
returns-in_ok-machine_rows-in-Machine c bytes =
    let h = c.args.store.now in
    let same : same_name c.in-Machine.machine h.machine ≡ true = search rules in
    subst (λ (p : StorePath). AnswersQuery (place_tests (store_on h bytes) p) (store_rows (store_on h bytes) p) (Ok c.in_ok-machine_rows-in-Machine.field-0)) (sym c.in-Machine.is)
    (machine_listed h bytes c.in-Machine.machine c.in_ok-machine_rows-in-Machine.field-0 same (c.in_ok-machine_rows-in-Machine.ensures ∙ ap held_machine (c.as_slice.ensures ∙ c.snapshots.ensures)))

pub returns-in_ok-volume_rows-in-Some : goal.returns-in_ok-volume_rows-in-Some
returns-in_ok-volume_rows-in-Some c bytes =
    let h = c.args.store.now in
    subst (λ (p : StorePath). AnswersQuery (place_tests (store_on h bytes) p) (store_rows (store_on h bytes) p) (Ok c.in_ok-volume_rows-in-Some.field-0)) (sym c.in-Snapshot.is)
    (snapshot_listed c.snapshots_are_named.ensures.at h bytes c.in-Snapshot.at c.in-Some.snapshot.now c.in_ok-volume_rows-in-Some.field-0
    (c.in-Some.ensures ∙ ap (held_at h.machine h.snapshots c.in-Snapshot.at.machine) c.date_of.ensures) c.in_ok-volume_rows-in-Some.ensures)

pub returns-in-None : goal.returns-in-None
returns-in-None c bytes =
    let h = c.args.store.now in
    subst (λ (p : StorePath). first_refused (place_tests (store_on h bytes) p) ≡ Some NoSnapshot) (sym c.in-Snapshot.is)
    (snapshot_missing c.snapshots_are_named.ensures.at h bytes c.in-Snapshot.at (c.in-None.ensures ∙ ap (held_at h.machine h.snapshots c.in-Snapshot.at.machine) c.date_of.ensures))

pub returns-in-Item : goal.returns-in-Item
returns-in-Item c bytes =
    let h = c.args.store.now in
    subst (λ (p : StorePath). AnswersQuery (place_tests (store_on h bytes) p) (store_rows (store_on h bytes) p) c.list_stored.result) (sym c.in-Item.is) (c.list_stored.ensures bytes)
