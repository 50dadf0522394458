use Rattle.std.proofs.Common.{◌≡◌, ℕ, ◌+◌, ◌<◌, ◌≤◌, List, ◌++◌, length, refl, sym, ap, ◌∙◌, subst, arith, Err}
use Rattle.tm_base.specs.declared.refused.Refused.TheVariants.{Full}
use Rattle.tm_blockmap.specs.Counts.{times}
use Rattle.tm_chain.specs.Blob.{blob_len}
use Rattle.tm_image.specs.Reads.{entries_of}
use Rattle.tm_image.specs.Room.{free_of, table_len}
use Rattle.tm_image.specs.Seen.{Stands}
use Rattle.tm_world.specs.Outside.{disk}
use Rattle.tm_world.specs.Log.{now}
use Rattle.tm_world.specs.Runs.{Runs}
use Rattle.tm_world.specs.declared.world.Side.{Side}
use Rattle.tm_world.specs.declared.world.Side.TheVariants.{Store}
use Rattle.tm_world.proofs.Going.{Runs-none}
use Rattle.tm_store_records.specs.Room.{store_blocks}
use Rattle.tm_store_records.specs.States.{LeavesOneStore}
use Rattle.tm_store_records.specs.Held.{Held, IsWhole, store_on, store_stored_on}
use Rattle.tm_store_records.proofs.Retagging.{same_store}
use Rattle.tm_store.specs.contracts.store.Store.{the_view}
use Rattle.tm_store.specs.Answers.{IsFullRefusal}
use Rattle.tm_store.proofs.Staging.{as_before, full_other, memory_other, stage_run, staged_whole, used_before}
use Rattle.tm_store.proofs.store.Store.stage_file.Goals as goal

pub returns-in_err-reserve-clause-any_moment : goal.returns-in_err-reserve-clause-any_moment
returns-in_err-reserve-clause-any_moment g c told = Runs-none Store _ (g.W.World.log c.args.world.now)

pub returns-in-Err-Fault-clause-any_moment : goal.returns-in-Err-Fault-clause-any_moment
returns-in-Err-Fault-clause-any_moment g c told =
    let h : Held = the_view c.self.inside in
    let whole : IsWhole h = subst IsWhole (sym c.self.view_is) c.requires.whole in
    let l0 = g.W.World.log c.args.world.now in
    let l1 = g.W.World.log c.stage.new.world in
    subst (λ (k : Held). Runs Store (LeavesOneStore (store_stored_on k (disk Store (now l0)).bytes)) l0 l1) c.self.view_is (stage_run h whole l0 l1 (c.in-Err-Fault.ensures.any_moment told))

pub returns-clause-any_moment : goal.returns-clause-any_moment
returns-clause-any_moment g c told =
    let h : Held = the_view c.self.inside in
    let whole : IsWhole h = subst IsWhole (sym c.self.view_is) c.requires.whole in
    let l0 = g.W.World.log c.args.world.now in
    let l1 = g.W.World.log c.stage.new.world in
    subst (λ (k : Held). Runs Store (LeavesOneStore (store_stored_on k (disk Store (now l0)).bytes)) l0 l1) c.self.view_is (stage_run h whole l0 l1 (c.in-Ok.ensures.any_moment told))

pub returns-clause-whole : goal.returns-clause-whole
returns-clause-whole g c =
    let h : Held = the_view c.self.inside in
    let whole : IsWhole h = subst IsWhole (sym c.self.view_is) c.requires.whole in
    let lists : c.append.new.list.items ≡ h.staged ++ c.in-Ok.blob.blocks = ◌∙◌ {A = List ℕ} c.append.ensures (λ i. c.reserve.ensures.items i ++ c.as_slice.ensures i) in
    subst (λ (bs : List ℕ). IsWhole (record h { image = c.stage.new.self; staged = bs })) (sym lists)
    (staged_whole h whole c.stage.new.self c.in-Ok.blob.blocks c.in-Ok.ensures.same c.in-Ok.ensures.sound c.in-Ok.ensures.settled c.in-Ok.ensures.space c.in-Ok.ensures.staged)

pub returns-clause-state : goal.returns-clause-state
returns-clause-state g c told =
    let h : Held = the_view c.self.inside in
    let whole : IsWhole h = subst IsWhole (sym c.self.view_is) c.requires.whole in
    let k : Held = record h { image = c.stage.new.self; staged = c.append.new.list.items } in
    let l0 = g.W.World.log c.args.world.now in
    let l1 = g.W.World.log c.stage.new.world in
    let data_same = subst (λ (s : Side). entries_of (disk s (now l1)).bytes h.image.records ≡ entries_of (disk s (now l0)).bytes h.image.records) whole.side (c.in-Ok.ensures.data told) in
    same_store h k (disk Store (now l0)).bytes (disk Store (now l1)).bytes refl refl refl refl c.in-Ok.ensures.same.records data_same
    ∙ ap (λ (q : Held). store_on q (disk Store (now l0)).bytes) c.self.view_is

pub returns-clause-stands : goal.returns-clause-stands
returns-clause-stands g c told =
    let whole : IsWhole (the_view c.self.inside) = subst IsWhole (sym c.self.view_is) c.requires.whole in
    subst (λ (s : Side). Stands c.stage.new.self (disk s (now (g.W.World.log c.stage.new.world)))) whole.side (c.in-Ok.ensures.stands told)

pub returns-in-Err-Full-clause-any_moment : goal.returns-in-Err-Full-clause-any_moment
returns-in-Err-Full-clause-any_moment g c told =
    let h : Held = the_view c.self.inside in
    let whole : IsWhole h = subst IsWhole (sym c.self.view_is) c.requires.whole in
    let l0 = g.W.World.log c.args.world.now in
    let l1 = g.W.World.log c.stage.new.world in
    subst (λ (k : Held). Runs Store (LeavesOneStore (store_stored_on k (disk Store (now l0)).bytes)) l0 l1) c.self.view_is (stage_run h whole l0 l1 (c.in-Err-Full.ensures.any_moment told))

pub returns-in-Err-Full-clause-stands : goal.returns-in-Err-Full-clause-stands
returns-in-Err-Full-clause-stands g c told =
    let h : Held = the_view c.self.inside in
    let whole : IsWhole h = subst IsWhole (sym c.self.view_is) c.requires.whole in
    subst (λ (s : Side). Stands c.stage.new.self (disk s (now (g.W.World.log c.stage.new.world)))) whole.side (c.in-Err-Full.ensures.stands told)

pub returns-in-Err-Full-clause-state : goal.returns-in-Err-Full-clause-state
returns-in-Err-Full-clause-state g c told =
    let h : Held = the_view c.self.inside in
    let whole : IsWhole h = subst IsWhole (sym c.self.view_is) c.requires.whole in
    let k : Held = record h { image = c.stage.new.self; staged = c.reserve.new.self.items } in
    let l0 = g.W.World.log c.args.world.now in
    let l1 = g.W.World.log c.stage.new.world in
    let data_same = subst (λ (s : Side). entries_of (disk s (now l1)).bytes h.image.records ≡ entries_of (disk s (now l0)).bytes h.image.records) whole.side (c.in-Err-Full.ensures.data told) in
    same_store h k (disk Store (now l0)).bytes (disk Store (now l1)).bytes refl refl refl refl c.in-Err-Full.ensures.same.records data_same
    ∙ ap (λ (q : Held). store_on q (disk Store (now l0)).bytes) c.self.view_is

pub returns-in-Err-Full-clause-others : goal.returns-in-Err-Full-clause-others
returns-in-Err-Full-clause-others g c told =
    λ b some.
    let h : Held = the_view c.self.inside in
    let whole : IsWhole h = subst IsWhole (sym c.self.view_is) c.requires.whole in
    let l0 = g.W.World.log c.args.world.now in
    let l1 = g.W.World.log c.stage.new.world in
    subst (λ (s : Side). (disk s (now l1)).bytes b ≡ (disk s (now l0)).bytes b) whole.side
    (c.in-Err-Full.ensures.others told b (used_before h whole b (subst (λ (q : Held). 0 < times b q.staged) (sym c.self.view_is) some)))

pub returns-in-Err-Full-clause-whole : goal.returns-in-Err-Full-clause-whole
returns-in-Err-Full-clause-whole g c =
    subst IsWhole (sym (as_before (the_view c.self.inside) c.args.self.now c.stage.new.self c.reserve.new.self.items c.self.view_is (c.in-Err-Full.ensures.err (full_other c.in-Err-Full.field-0 _ _ c.in-Err-Full.field-0-is)) c.reserve.ensures.items)) c.requires.whole

pub returns-in-Err-Full-clause-err : goal.returns-in-Err-Full-clause-err
returns-in-Err-Full-clause-err g c =
    (as_before (the_view c.self.inside) c.args.self.now c.stage.new.self c.reserve.new.self.items c.self.view_is (c.in-Err-Full.ensures.err (full_other c.in-Err-Full.field-0 _ _ c.in-Err-Full.field-0-is)) c.reserve.ensures.items, c.in-Err-Full.ensures.untouched (full_other c.in-Err-Full.field-0 _ _ c.in-Err-Full.field-0-is))

pub returns-in-Err-Full-clause-refused : goal.returns-in-Err-Full-clause-refused
returns-in-Err-Full-clause-refused g c =
    let h : Held = the_view c.self.inside in
    let whole : IsWhole h = subst IsWhole (sym c.self.view_is) c.requires.whole in
    let need = blob_len (length c.args.bytes.now) in
    let law : table_len h.image.records ≡ store_blocks h.machine h.snapshots h.nodes = c.table_is_told.ensures h whole in
    let full = c.in-Err-Full.ensures.full c.in-Err-Full.need c.in-Err-Full.free (ap (λ e. Err e) c.in-Err-Full.field-0-is) in
    subst (λ (q : Held). IsFullRefusal (need + store_blocks q.machine q.snapshots q.nodes) (free_of q.image) (Full c.in-Err-Full.need c.in-Err-Full.free)) c.self.view_is
    (full.2 ∙ ap (λ n. need + n) law, full.1, omega (arith, full.0, full.1, full.2, law))

pub returns-in-Err-Memory-clause-any_moment : goal.returns-in-Err-Memory-clause-any_moment
returns-in-Err-Memory-clause-any_moment g c told =
    let h : Held = the_view c.self.inside in
    let whole : IsWhole h = subst IsWhole (sym c.self.view_is) c.requires.whole in
    let l0 = g.W.World.log c.args.world.now in
    let l1 = g.W.World.log c.stage.new.world in
    subst (λ (k : Held). Runs Store (LeavesOneStore (store_stored_on k (disk Store (now l0)).bytes)) l0 l1) c.self.view_is (stage_run h whole l0 l1 (c.in-Err-Memory.ensures.any_moment told))

pub returns-in-Err-Memory-clause-stands : goal.returns-in-Err-Memory-clause-stands
returns-in-Err-Memory-clause-stands g c told =
    let h : Held = the_view c.self.inside in
    let whole : IsWhole h = subst IsWhole (sym c.self.view_is) c.requires.whole in
    subst (λ (s : Side). Stands c.stage.new.self (disk s (now (g.W.World.log c.stage.new.world)))) whole.side (c.in-Err-Memory.ensures.stands told)

pub returns-in-Err-Memory-clause-state : goal.returns-in-Err-Memory-clause-state
returns-in-Err-Memory-clause-state g c told =
    let h : Held = the_view c.self.inside in
    let whole : IsWhole h = subst IsWhole (sym c.self.view_is) c.requires.whole in
    let k : Held = record h { image = c.stage.new.self; staged = c.reserve.new.self.items } in
    let l0 = g.W.World.log c.args.world.now in
    let l1 = g.W.World.log c.stage.new.world in
    let data_same = subst (λ (s : Side). entries_of (disk s (now l1)).bytes h.image.records ≡ entries_of (disk s (now l0)).bytes h.image.records) whole.side (c.in-Err-Memory.ensures.data told) in
    same_store h k (disk Store (now l0)).bytes (disk Store (now l1)).bytes refl refl refl refl c.in-Err-Memory.ensures.same.records data_same
    ∙ ap (λ (q : Held). store_on q (disk Store (now l0)).bytes) c.self.view_is

pub returns-in-Err-Memory-clause-others : goal.returns-in-Err-Memory-clause-others
returns-in-Err-Memory-clause-others g c told =
    λ b some.
    let h : Held = the_view c.self.inside in
    let whole : IsWhole h = subst IsWhole (sym c.self.view_is) c.requires.whole in
    let l0 = g.W.World.log c.args.world.now in
    let l1 = g.W.World.log c.stage.new.world in
    subst (λ (s : Side). (disk s (now l1)).bytes b ≡ (disk s (now l0)).bytes b) whole.side
    (c.in-Err-Memory.ensures.others told b (used_before h whole b (subst (λ (q : Held). 0 < times b q.staged) (sym c.self.view_is) some)))

pub returns-in-Err-Memory-clause-whole : goal.returns-in-Err-Memory-clause-whole
returns-in-Err-Memory-clause-whole g c =
    subst IsWhole (sym (as_before (the_view c.self.inside) c.args.self.now c.stage.new.self c.reserve.new.self.items c.self.view_is (c.in-Err-Memory.ensures.err (memory_other c.in-Err-Memory.field-0 c.in-Err-Memory.field-0-is)) c.reserve.ensures.items)) c.requires.whole

pub returns-in-Err-Memory-clause-err : goal.returns-in-Err-Memory-clause-err
returns-in-Err-Memory-clause-err g c =
    (as_before (the_view c.self.inside) c.args.self.now c.stage.new.self c.reserve.new.self.items c.self.view_is (c.in-Err-Memory.ensures.err (memory_other c.in-Err-Memory.field-0 c.in-Err-Memory.field-0-is)) c.reserve.ensures.items, c.in-Err-Memory.ensures.untouched (memory_other c.in-Err-Memory.field-0 c.in-Err-Memory.field-0-is))

pub returns-clause-others : goal.returns-clause-others
returns-clause-others g c told =
    λ b some.
    let h : Held = the_view c.self.inside in
    let whole : IsWhole h = subst IsWhole (sym c.self.view_is) c.requires.whole in
    let l0 = g.W.World.log c.args.world.now in
    let l1 = g.W.World.log c.stage.new.world in
    subst (λ (s : Side). (disk s (now l1)).bytes b ≡ (disk s (now l0)).bytes b) whole.side
    (c.in-Ok.ensures.others told b (used_before h whole b (subst (λ (q : Held). 0 < times b q.staged) (sym c.self.view_is) some)))

pub returns-clause-fits : goal.returns-clause-fits
returns-clause-fits g c =
    let h : Held = the_view c.self.inside in
    let whole : IsWhole h = subst IsWhole (sym c.self.view_is) c.requires.whole in
    let need = blob_len (length c.args.bytes.now) in
    let law : table_len h.image.records ≡ store_blocks h.machine h.snapshots h.nodes = c.table_is_told.ensures h whole in
    subst (λ (q : Held). need + store_blocks q.machine q.snapshots q.nodes ≤ free_of q.image) c.self.view_is (omega (arith, c.in-Ok.ensures.fits, law))
