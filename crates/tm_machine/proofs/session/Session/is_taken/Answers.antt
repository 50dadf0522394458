use Rattle.std.proofs.Common.{◌≡◌, ◌∙◌, ◌==◌, List, ap, sym}
use Rattle.std.specs.List.{list_any}
use Rattle.tm_store_records.specs.Held.{files_of}
use Rattle.tm_store_records.specs.declared.snapshot.Snapshot.{Snapshot}
use Rattle.tm_world.specs.Outside.{disk}
use Rattle.tm_world.specs.declared.world.Side.TheVariants.{Store as StoreSide}
use Rattle.tm_machine.specs.Session.{Seen}
use Rattle.tm_machine.specs.Steps.{is_taken}
use Rattle.tm_machine.proofs.StoredLemmas.{ids_are, of_store}
use Rattle.tm_machine.proofs.session.Session.is_taken.Goals as goal

pub returns-in-Some : goal.returns-in-Some
returns-in-Some c o =
    let h = c.in-Some.store in
    of_store (λ z. c.has_id.result ≡ is_taken z c.args.id) c.args.self.now h o (sym (ap (λ (m : Seen). m.store) c.self.view_is) ∙ c.in-Some.is)
    (c.has_id.ensures ∙ ap (λ (xs : List Snapshot). list_any (λ s. s.id == c.args.id) xs) (c.as_slice.ensures ∙ c.snapshots.ensures)
    ∙ sym (ids_are (files_of h.image.records (disk StoreSide o).bytes) h.nodes c.args.id h.snapshots))
