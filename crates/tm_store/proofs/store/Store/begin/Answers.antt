use Rattle.std.proofs.Common.{◌≡◌, Some, ℕ, refl, sym, ap, ◌∙◌, subst, List}
use Rattle.tm_world.specs.Outside.{disk}
use Rattle.tm_world.specs.Log.{now}
use Rattle.tm_world.specs.Runs.{Runs}
use Rattle.tm_world.specs.declared.world.Side.{Side}
use Rattle.tm_world.specs.declared.world.Side.TheVariants.{Store}
use Rattle.tm_image.specs.Reads.{LeavesOneOf, entries_of}
use Rattle.tm_store_records.specs.Tags.{FitsTag}
use Rattle.tm_store_records.specs.States.{LeavesStore}
use Rattle.tm_store_records.specs.Held.{Held, IsWhole, MayFinish, store_on, store_stored_on}
use Rattle.tm_store_records.proofs.Retagging.{retagged, same_store, whole_again, staged_again}
use Rattle.tm_gate.specs.Tag.{IsTag}
use Rattle.tm_store.proofs.Tagging.{tag_fits}
use Rattle.tm_store.proofs.store.Store.begin.Goals as goal

pub retag-requires-clause-tag : goal.retag-requires-clause-tag
retag-requires-clause-tag g c =
    let a = c.self.inside in
    let h : Held = record { image = a.image; nodes = a.graph; machine = a.machine; snapshots = a.snapshots; running = a.running; stored = a.stored; number = a.number; staged = a.staged.items } in
    let whole : IsWhole h = subst IsWhole (sym c.self.view_is) c.requires.whole in
    let fits : FitsTag (Some c.args.date) a.number = record { date = c.write_tag-tag.ensures.date; least = whole.fits.least; most = whole.fits.most } in
    subst (λ (s : Side). IsTag s c.write_tag-tag.result) (sym whole.side) (tag_fits (Some c.args.date) a.number c.write_tag-tag.result c.write_tag-tag.ensures.tag fits)

pub returns-in_err-retag-clause-any_moment : goal.returns-in_err-retag-clause-any_moment
returns-in_err-retag-clause-any_moment g c told =
    let a = c.self.inside in
    let h : Held = record { image = a.image; nodes = a.graph; machine = a.machine; snapshots = a.snapshots; running = a.running; stored = a.stored; number = a.number; staged = a.staged.items } in
    let whole : IsWhole h = subst IsWhole (sym c.self.view_is) c.requires.whole in
    let fits : FitsTag (Some c.args.date) a.number = record { date = c.write_tag-tag.ensures.date; least = whole.fits.least; most = whole.fits.most } in
    let l0 = g.W.World.log c.args.world.now in
    let l1 = g.W.World.log c.retag.new.world in
    let b = (disk Store (now l0)).bytes in
    let entries = entries_of (disk a.image.side (now l0)).bytes a.image.records in
    let runs = subst (λ (t : List ℕ). Runs a.image.side (LeavesOneOf a.image.side entries a.image.root.tag entries t) l0 l1) c.write_tag-tag.ensures.tag (c.in_err-retag.ensures.any_moment told) in
    subst (λ (k : Held). Runs Store (LeavesStore (store_stored_on k b) (record { store = store_on k b; running = Some c.args.date })) l0 l1) c.self.view_is (retagged h l0 l1 (Some c.args.date) whole fits runs)

pub returns-clause-any_moment : goal.returns-clause-any_moment
returns-clause-any_moment g c told =
    let a = c.self.inside in
    let h : Held = record { image = a.image; nodes = a.graph; machine = a.machine; snapshots = a.snapshots; running = a.running; stored = a.stored; number = a.number; staged = a.staged.items } in
    let whole : IsWhole h = subst IsWhole (sym c.self.view_is) c.requires.whole in
    let fits : FitsTag (Some c.args.date) a.number = record { date = c.write_tag-tag.ensures.date; least = whole.fits.least; most = whole.fits.most } in
    let l0 = g.W.World.log c.args.world.now in
    let l1 = g.W.World.log c.retag.new.world in
    let b = (disk Store (now l0)).bytes in
    let entries = entries_of (disk a.image.side (now l0)).bytes a.image.records in
    let runs = subst (λ (t : List ℕ). Runs a.image.side (LeavesOneOf a.image.side entries a.image.root.tag entries t) l0 l1) c.write_tag-tag.ensures.tag (c.in_ok-retag.ensures.any_moment told) in
    subst (λ (k : Held). Runs Store (LeavesStore (store_stored_on k b) (record { store = store_on k b; running = Some c.args.date })) l0 l1) c.self.view_is (retagged h l0 l1 (Some c.args.date) whole fits runs)

pub returns-clause-state : goal.returns-clause-state
returns-clause-state g c told =
    let a = c.self.inside in
    let h : Held = record { image = a.image; nodes = a.graph; machine = a.machine; snapshots = a.snapshots; running = a.running; stored = a.stored; number = a.number; staged = a.staged.items } in
    let k : Held = record { image = c.retag.new.self; nodes = a.graph; machine = a.machine; snapshots = a.snapshots; running = Some c.args.date; stored = Some c.args.date; number = a.number; staged = a.staged.items } in
    let whole : IsWhole h = subst IsWhole (sym c.self.view_is) c.requires.whole in
    let l0 = g.W.World.log c.args.world.now in
    let l1 = g.W.World.log c.retag.new.world in
    let data_same = subst (λ (s : Side). entries_of (disk s (now l1)).bytes a.image.records ≡ entries_of (disk s (now l0)).bytes a.image.records) whole.side (c.in_ok-retag.ensures.data told) in
    same_store h k (disk Store (now l0)).bytes (disk Store (now l1)).bytes refl refl refl refl c.in_ok-retag.ensures.same.1 data_same
    ∙ ap (λ (q : Held). store_on q (disk Store (now l0)).bytes) c.self.view_is

pub returns-clause-whole : goal.returns-clause-whole
returns-clause-whole g c =
    let a = c.self.inside in
    let h : Held = record { image = a.image; nodes = a.graph; machine = a.machine; snapshots = a.snapshots; running = a.running; stored = a.stored; number = a.number; staged = a.staged.items } in
    let k : Held = record { image = c.retag.new.self; nodes = a.graph; machine = a.machine; snapshots = a.snapshots; running = Some c.args.date; stored = Some c.args.date; number = a.number; staged = a.staged.items } in
    let whole : IsWhole h = subst IsWhole (sym c.self.view_is) c.requires.whole in
    let next : MayFinish h c.args.date = subst (λ (q : Held). MayFinish q c.args.date) (sym c.self.view_is) c.requires.next in
    let fits : FitsTag (Some c.args.date) a.number = record { date = c.write_tag-tag.ensures.date; least = whole.fits.least; most = whole.fits.most } in
    let same = c.in_ok-retag.ensures.same in
    whole_again h k whole fits (c.in_ok-retag.ensures.tag ∙ c.write_tag-tag.ensures.tag)
    (λ date is. let e : c.args.date ≡ date = cc in (ap (λ d. Some d) e, subst (λ d. MayFinish h d) e next))
    same.0 same.1 c.total.ensures.sound c.in_ok-retag.ensures.settled c.in_ok-retag.ensures.space refl refl refl refl (staged_again a.image c.retag.new.self a.staged.items whole.blobs same.1 same.2 same.3)
