use Rattle.std.proofs.Common.{◌≡◌, Some, None, ℕ, sym, ap, ◌∙◌, subst, List}
use Rattle.tm_world.specs.Outside.{disk}
use Rattle.tm_world.specs.Log.{now}
use Rattle.tm_world.specs.Runs.{Runs}
use Rattle.tm_world.specs.declared.world.Side.{Side}
use Rattle.tm_world.specs.declared.world.Side.TheVariants.{Store}
use Rattle.tm_image.specs.Content.{Content}
use Rattle.tm_image.specs.Reads.{LeavesOneOf, entries_of}
use Rattle.tm_store_records.specs.Tags.{FitsTag, tag_of}
use Rattle.tm_store_records.specs.States.{LeavesStore}
use Rattle.tm_store_records.specs.Held.{Held, IsWhole, store_on, store_stored_on}
use Rattle.tm_image.specs.Room.{AreStaged}
use Rattle.tm_store_records.proofs.Retagging.{retagged, same_store, whole_again, staged_again}
use Rattle.tm_store.proofs.Unstaging.{is_idle, settled_content, room_content}
use Rattle.tm_gate.specs.Tag.{IsTag}
use Rattle.tm_store.proofs.Tagging.{tag_fits}
use Rattle.tm_store.proofs.store.Store.cancel.Goals as goal

pub retag-requires-clause-tag : goal.retag-requires-clause-tag
retag-requires-clause-tag g c =
    let a = c.self.inside in
    let h : Held = record { image = a.image; nodes = a.graph; machine = a.machine; snapshots = a.snapshots; running = a.running; stored = a.stored; number = a.number; staged = a.staged.items } in
    let whole : IsWhole h = subst IsWhole (sym c.self.view_is) c.requires.whole in
    let fits : FitsTag None a.number = record { date = tt; least = whole.fits.least; most = whole.fits.most } in
    subst (λ (s : Side). IsTag s c.write_tag-tag.result) (sym whole.side) (tag_fits None a.number c.write_tag-tag.result c.write_tag-tag.ensures.tag fits)

pub returns-in_err-retag-clause-any_moment : goal.returns-in_err-retag-clause-any_moment
returns-in_err-retag-clause-any_moment g c told =
    let a = c.self.inside in
    let h : Held = record { image = a.image; nodes = a.graph; machine = a.machine; snapshots = a.snapshots; running = a.running; stored = a.stored; number = a.number; staged = a.staged.items } in
    let whole : IsWhole h = subst IsWhole (sym c.self.view_is) c.requires.whole in
    let fits : FitsTag None a.number = record { date = tt; least = whole.fits.least; most = whole.fits.most } in
    let l0 = g.W.World.log c.args.world.now in
    let l1 = g.W.World.log c.retag.new.world in
    let b = (disk Store (now l0)).bytes in
    let entries = entries_of (disk a.image.side (now l0)).bytes a.image.records in
    let runs = subst (λ (t : List ℕ). Runs a.image.side (LeavesOneOf a.image.side entries a.image.root.tag entries t) l0 l1) c.write_tag-tag.ensures.tag (c.in_err-retag.ensures.any_moment told) in
    subst (λ (k : Held). Runs Store (LeavesStore (store_stored_on k b) (record { store = store_on k b; running = None })) l0 l1) c.self.view_is (retagged h l0 l1 None whole fits runs)

pub returns-clause-any_moment : goal.returns-clause-any_moment
returns-clause-any_moment g c told =
    let a = c.self.inside in
    let h : Held = record { image = a.image; nodes = a.graph; machine = a.machine; snapshots = a.snapshots; running = a.running; stored = a.stored; number = a.number; staged = a.staged.items } in
    let whole : IsWhole h = subst IsWhole (sym c.self.view_is) c.requires.whole in
    let fits : FitsTag None a.number = record { date = tt; least = whole.fits.least; most = whole.fits.most } in
    let l0 = g.W.World.log c.args.world.now in
    let l1 = g.W.World.log c.retag.new.world in
    let b = (disk Store (now l0)).bytes in
    let entries = entries_of (disk a.image.side (now l0)).bytes a.image.records in
    let runs = subst (λ (t : List ℕ). Runs a.image.side (LeavesOneOf a.image.side entries a.image.root.tag entries t) l0 l1) c.write_tag-tag.ensures.tag (c.in_ok-retag.ensures.any_moment told) in
    subst (λ (k : Held). Runs Store (LeavesStore (store_stored_on k b) (record { store = store_on k b; running = None })) l0 l1) c.self.view_is (retagged h l0 l1 None whole fits runs)

pub returns-clause-state : goal.returns-clause-state
returns-clause-state g c told =
    let a = c.self.inside in
    let h : Held = record { image = a.image; nodes = a.graph; machine = a.machine; snapshots = a.snapshots; running = a.running; stored = a.stored; number = a.number; staged = a.staged.items } in
    let k = c.give_back_all.new.self in
    let idle = is_idle h k c.give_back_all.new.self.image c.give_back_all.ensures.same in
    let whole : IsWhole h = subst IsWhole (sym c.self.view_is) c.requires.whole in
    let l0 = g.W.World.log c.args.world.now in
    let l1 = g.W.World.log c.retag.new.world in
    let data_same = subst (λ (s : Side). entries_of (disk s (now l1)).bytes a.image.records ≡ entries_of (disk s (now l0)).bytes a.image.records) whole.side (c.in_ok-retag.ensures.data told) in
    same_store h k (disk Store (now l0)).bytes (disk Store (now l1)).bytes idle.machine idle.number idle.nodes idle.snapshots
    (ap (λ (x : Content). x.records) c.give_back_all.ensures.content ∙ c.in_ok-retag.ensures.same.1) data_same
    ∙ ap (λ (q : Held). store_on q (disk Store (now l0)).bytes) c.self.view_is

pub returns-clause-whole : goal.returns-clause-whole
returns-clause-whole g c =
    let a = c.self.inside in
    let h : Held = record { image = a.image; nodes = a.graph; machine = a.machine; snapshots = a.snapshots; running = a.running; stored = a.stored; number = a.number; staged = a.staged.items } in
    let k = c.give_back_all.new.self in
    let idle = is_idle h k c.give_back_all.new.self.image c.give_back_all.ensures.same in
    let whole : IsWhole h = subst IsWhole (sym c.self.view_is) c.requires.whole in
    let fits : FitsTag None a.number = record { date = tt; least = whole.fits.least; most = whole.fits.most } in
    let content = c.give_back_all.ensures.content in
    let kept = c.in_ok-retag.ensures.same in
    whole_again h k whole
    (subst (λ o. FitsTag o k.number) (sym idle.stored) (subst (λ n. FitsTag None n) (sym idle.number) fits))
    (ap (λ (x : Content). x.root.tag) content ∙ c.in_ok-retag.ensures.tag ∙ c.write_tag-tag.ensures.tag ∙ (λ i. tag_of (sym idle.stored i) (sym idle.number i)))
    (λ date is. absurd (let bad : None ≡ Some date = sym idle.running ∙ is in cc))
    (c.give_back_all.ensures.side ∙ kept.0)
    (ap (λ (x : Content). x.records) content ∙ kept.1)
    c.give_back_all.ensures.sound
    (settled_content c.retag.new.self k.image content c.in_ok-retag.ensures.settled)
    (room_content c.retag.new.self k.image content c.give_back_all.ensures.more c.in_ok-retag.ensures.space)
    idle.machine idle.number idle.nodes idle.snapshots
    (subst (λ (bs : List ℕ). AreStaged bs k.image) (sym idle.staged) c.give_back_all.ensures.unstaged)

pub give_back_all-requires : goal.give_back_all-requires
give_back_all-requires g c =
    let a = c.self.inside in
    let h : Held = record { image = a.image; nodes = a.graph; machine = a.machine; snapshots = a.snapshots; running = a.running; stored = a.stored; number = a.number; staged = a.staged.items } in
    let whole : IsWhole h = subst IsWhole (sym c.self.view_is) c.requires.whole in
    let same = c.in_ok-retag.ensures.same in
    staged_again a.image c.retag.new.self a.staged.items whole.blobs same.1 same.2 same.3
