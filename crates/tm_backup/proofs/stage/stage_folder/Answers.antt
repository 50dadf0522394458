use Rattle.std.proofs.Common.{◌≡◌, ℕ, List, Err, [], ◌∷◌, ◌++◌, length, sym, ap, ◌∙◌, subst, refl, arith}
use Rattle.std.specs.List.{All, flat_map}
use Rattle.std.specs.Vec.Iter.{into_iter_items}
use Rattle.std.proofs.lemmas.List.Elements.{All-head}
use Rattle.std.proofs.lemmas.Result.{err_from_is_err_and}
use Rattle.tm_world.specs.Log.{now}
use Rattle.tm_world.specs.declared.world.Side.{Side}
use Rattle.tm_world.specs.declared.world.Side.TheVariants.{Volume, Store}
use Rattle.tm_image.specs.Room.{free_of}
use Rattle.tm_tree.specs.declared.listing.ListRow.{ListRow}
use Rattle.tm_tree.specs.Trees.{IsTree}
use Rattle.tm_tree.proofs.ViewsKept.{view_kept}
use Rattle.tm_volume.specs.Seen.{tree_on}
use Rattle.tm_copy.specs.Listed.{StandsAs}
use Rattle.tm_copy.proofs.Naming.{rows_stand_in}
use Rattle.tm_backup.specs.declared.stage.PlannedEntry.{PlannedEntry}
use Rattle.tm_backup.specs.EntryPlans.{row_blocks}
use Rattle.tm_backup.specs.Steps.{MayGo, Went}
use Rattle.tm_backup.specs.Taking.{view_on, prev_on}
use Rattle.tm_backup.proofs.Folding.{SoFar, so_far_start, so_far_next, stages_stop, no_items, table_of, staging_rows}
use Rattle.tm_backup.proofs.Staging.{Onward, onward_end, stages_ok, stages_same}
use Rattle.tm_backup.proofs.Stepping.{may_then, ran_then, went_then, unless_err, unless_none}
use Rattle.tm_backup.proofs.stage.stage_folder.Goals as goal

pub loop-row-init : goal.loop-row-init
loop-row-init g c =
    let told = g.W.World.told in
    let v = c.args.volume.now in
    let s = c.args.store.now in
    let l = g.W.World.log c.args.world.now in
    let p = c.args.path.now in
    let rows = c.args.rows.items in
    let shown = λ (bytes : ℕ → List ℕ).
    let tree : IsTree (view_on v bytes) = view_kept v.fixed (tree_on v bytes) (c.items_keep_bounds.ensures.tree v bytes c.requires.may.kept) in
    subst (λ (xs : List ListRow). All (λ row. StandsAs (view_on v bytes) (p ++ row.name ∷ []) row.kind) xs) (c.requires.rows bytes) (rows_stand_in (view_on v bytes) p tree) in
    let start : SoFar told v s s l l p c.args.base rows rows [] = so_far_start told v s l _ _ c.requires.may p c.args.base rows shown in
    record {
      far = subst (λ (xs : List ListRow). SoFar told v s s l l p c.args.base rows xs c.new-planned.result.items) (sym c.into_iter-row-iterator.ensures.into_iter_gives.0)
          (subst (λ (ys : List PlannedEntry). SoFar told v s s l l p c.args.base rows rows ys) (sym c.new-planned.ensures.items) start);
      count = omega (arith, c.into_iter-row-iterator.ensures.into_iter_gives.1, ap length c.into_iter-row-iterator.ensures.into_iter_gives.0, c.args.rows.ok.0);
      blocks = refl;
      never_less = λ part. omega arith;
    }

pub plan_row-requires-clause-may : goal.plan_row-requires-clause-may
plan_row-requires-clause-may g c =
    let far = c.loop-row.invariant.far in
    let may = may_then g.W.World.told c.args.volume.now c.args.volume.now c.args.store.now c.loop-row.store (g.W.World.log c.args.world.now) (g.W.World.log c.loop-row.world) _ _ c.requires.may far.ran far.went in
    subst (λ (b : Side → ℕ). MayGo g.W.World.told c.args.volume.now c.loop-row.store (now (g.W.World.log c.loop-row.world)) (b Volume) (b Store)) (sym c.loop-row.invariant.blocks) may

pub plan_row-requires-clause-row : goal.plan_row-requires-clause-row
plan_row-requires-clause-row g c = λ bytes.
    let v = c.args.volume.now in
    let p = c.args.path.now in
    let left = into_iter_items c.next.new.self in
    let all = subst (λ (xs : List ListRow). All (λ row. StandsAs (view_on v bytes) (p ++ row.name ∷ []) row.kind) xs) c.in-Some.ensures.steps.0 (c.loop-row.invariant.far.rest bytes) in
    All-head (λ row. StandsAs (view_on v bytes) (p ++ row.name ∷ []) row.kind) c.in-Some.row left all

-- the store and the clock after one entry more
pub returns-in_err-plan_row-clause-ran : goal.returns-in_err-plan_row-clause-ran
returns-in_err-plan_row-clause-ran g c =
    let far = c.loop-row.invariant.far in
    ran_then g.W.World.told c.args.volume.now c.args.volume.now c.args.store.now c.loop-row.store (g.W.World.log c.args.world.now) (g.W.World.log c.loop-row.world) _ _ c.requires.may far.ran far.went
    c.args.volume.now c.plan_row.new.store (g.W.World.log c.plan_row.new.world) c.in_err-plan_row.ensures.ran

pub returns-in_err-plan_row-clause-went : goal.returns-in_err-plan_row-clause-went
returns-in_err-plan_row-clause-went g c =
    let far = c.loop-row.invariant.far in
    let q = err_from_is_err_and c.from_residual.result c.from_residual.ensures.1 in
    unless_err PlannedEntry c.from_residual.result c.in_err-plan_row.field-0.0 _ _ (q.1 ∙ ap Err q.2)
    (went_then g.W.World.told c.args.volume.now c.args.volume.now c.args.store.now c.loop-row.store (g.W.World.log c.args.world.now) (g.W.World.log c.loop-row.world) _ _ c.requires.may far.ran far.went
    c.plan_row.new.store (g.W.World.log c.plan_row.new.world)) c.in_err-plan_row.ensures.went

pub returns-in_err-plan_row-clause-stages : goal.returns-in_err-plan_row-clause-stages
returns-in_err-plan_row-clause-stages g c =
    let v = c.args.volume.now in
    let s = c.args.store.now in
    let t = c.loop-row.store in
    let u = c.plan_row.new.store in
    let l = g.W.World.log c.args.world.now in
    let m = g.W.World.log c.loop-row.world in
    let p = c.args.path.now in
    let base = c.args.base in
    let rows = c.args.rows.items in
    let planned = c.loop-row.planned.items in
    let left = into_iter_items c.next.new.self in
    let told = g.W.World.told in
    let may = c.requires.may in
    let far : SoFar told v s t l m p base rows (c.in-Some.row ∷ left) planned = subst (λ (xs : List ListRow). SoFar told v s t l m p base rows xs planned) c.in-Some.ensures.steps.0 c.loop-row.invariant.far in
    let q = err_from_is_err_and c.from_residual.result c.from_residual.ensures.1 in
    λ root files bytes suits.
    let prev = prev_on s files root in
    let tree : IsTree (view_on v bytes) = view_kept v.fixed (tree_on v bytes) (c.items_keep_bounds.ensures.tree v bytes may.kept) in
    let blocks = staging_rows prev (view_on v bytes) p tree ∙ ap (flat_map (row_blocks prev p)) (c.requires.rows bytes) in
    stages_same (table_of s) (free_of s.image) (free_of u.image) _ _ c.from_residual.result blocks
    (stages_stop told v s l _ _ may p base rows t m c.in-Some.row left planned far u c.from_residual.result c.in_err-plan_row.field-0.0 (q.1 ∙ ap Err q.2) c.in_err-plan_row.ensures.stages root files bytes suits)

pub loop-row-preserved : goal.loop-row-preserved
loop-row-preserved g c =
    let v = c.args.volume.now in
    let s = c.args.store.now in
    let t = c.loop-row.store in
    let u = c.plan_row.new.store in
    let l = g.W.World.log c.args.world.now in
    let m = g.W.World.log c.loop-row.world in
    let n = g.W.World.log c.plan_row.new.world in
    let p = c.args.path.now in
    let base = c.args.base in
    let rows = c.args.rows.items in
    let planned = c.loop-row.planned.items in
    let left = into_iter_items c.next.new.self in
    let told = g.W.World.told in
    let may = c.requires.may in
    let far : SoFar told v s t l m p base rows (c.in-Some.row ∷ left) planned = subst (λ (xs : List ListRow). SoFar told v s t l m p base rows xs planned) c.in-Some.ensures.steps.0 c.loop-row.invariant.far in
    let e = c.in_ok-plan_row.ensures in
    let next = so_far_next told v s l _ _ may p base rows t m c.in-Some.row left planned far u n c.in_ok-plan_row.field-0 e.ran e.went e.stages e.planned e.head e.enter e.owed in
    record {
      far = subst (λ (xs : List PlannedEntry). SoFar told v s u l n p base rows left xs) (sym c.in_ok-push.ensures.items) next;
      count = omega (arith, c.loop-row.invariant.count, c.in-Some.ensures.steps.1, ap length c.in-Some.ensures.steps.0);
      blocks = e.blocks ∙ c.loop-row.invariant.blocks;
      never_less = λ part. omega (arith, e.never_less part, c.loop-row.invariant.never_less part);
    }

pub returns-in_err-push-clause-ran : goal.returns-in_err-push-clause-ran
returns-in_err-push-clause-ran g c =
    let v = c.args.volume.now in
    let s = c.args.store.now in
    let t = c.loop-row.store in
    let u = c.plan_row.new.store in
    let l = g.W.World.log c.args.world.now in
    let m = g.W.World.log c.loop-row.world in
    let n = g.W.World.log c.plan_row.new.world in
    let p = c.args.path.now in
    let base = c.args.base in
    let rows = c.args.rows.items in
    let planned = c.loop-row.planned.items in
    let left = into_iter_items c.next.new.self in
    let told = g.W.World.told in
    let may = c.requires.may in
    let far : SoFar told v s t l m p base rows (c.in-Some.row ∷ left) planned = subst (λ (xs : List ListRow). SoFar told v s t l m p base rows xs planned) c.in-Some.ensures.steps.0 c.loop-row.invariant.far in
    ran_then told v v s t l m _ _ may far.ran far.went v u n c.in_ok-plan_row.ensures.ran

pub returns-in_err-push-clause-went : goal.returns-in_err-push-clause-went
returns-in_err-push-clause-went g c =
    let v = c.args.volume.now in
    let s = c.args.store.now in
    let t = c.loop-row.store in
    let u = c.plan_row.new.store in
    let l = g.W.World.log c.args.world.now in
    let m = g.W.World.log c.loop-row.world in
    let n = g.W.World.log c.plan_row.new.world in
    let p = c.args.path.now in
    let base = c.args.base in
    let rows = c.args.rows.items in
    let planned = c.loop-row.planned.items in
    let left = into_iter_items c.next.new.self in
    let told = g.W.World.told in
    let may = c.requires.may in
    let far : SoFar told v s t l m p base rows (c.in-Some.row ∷ left) planned = subst (λ (xs : List ListRow). SoFar told v s t l m p base rows xs planned) c.in-Some.ensures.steps.0 c.loop-row.invariant.far in
    unless_none _ (Went told s u l n) (went_then told v v s t l m _ _ may far.ran far.went u n c.in_ok-plan_row.ensures.went)

pub returns-clause-stages : goal.returns-clause-stages
returns-clause-stages g c = λ root files bytes suits.
    let v = c.args.volume.now in
    let s = c.args.store.now in
    let t = c.loop-row.store in
    let p = c.args.path.now in
    let rows = c.args.rows.items in
    let prev = prev_on s files root in
    let far = c.loop-row.invariant.far in
    let none : into_iter_items c.loop-row.row-iterator ≡ [] = no_items (into_iter_items c.loop-row.row-iterator) (omega (arith, c.loop-row.invariant.count, c.in-None.ensures.steps.0)) in
    let on : Onward (table_of s) (free_of s.image) (free_of t.image) (flat_map (row_blocks prev p) rows) [] = subst (λ (xs : List ListRow). Onward (table_of s) (free_of s.image) (free_of t.image) (flat_map (row_blocks prev p) rows) (flat_map (row_blocks prev p) xs)) none (far.stages root files bytes suits) in
    let tree : IsTree (view_on v bytes) = view_kept v.fixed (tree_on v bytes) (c.items_keep_bounds.ensures.tree v bytes c.requires.may.kept) in
    let blocks = staging_rows prev (view_on v bytes) p tree ∙ ap (flat_map (row_blocks prev p)) (c.requires.rows bytes) in
    stages_ok {A = List PlannedEntry} (table_of s) (free_of s.image) (free_of t.image) _ _ [] blocks (onward_end {A = List PlannedEntry} (table_of s) (free_of s.image) (free_of t.image) (flat_map (row_blocks prev p) rows) [] on)
