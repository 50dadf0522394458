use Rattle.std.proofs.Common.{◌≡◌, ℕ, List, Some, Ok, Err, [], ◌∷◌, length, sym, ap, ◌∙◌, subst, refl, arith}
use Rattle.std.specs.Vec.Iter.{into_iter_items}
use Rattle.std.proofs.lemmas.Result.{err_from_is_err_and}
use Rattle.tm_base.specs.declared.refused.LineFault.TheVariants.{Fault}
use Rattle.tm_world.specs.Log.{now}
use Rattle.tm_world.specs.declared.world.Side.{Side}
use Rattle.tm_world.specs.declared.world.Side.TheVariants.{Volume, Store}
use Rattle.tm_world.specs.Faults.{part_at}
use Rattle.tm_graph.specs.Nodes.{Nodes}
use Rattle.tm_tree.specs.declared.node.Child.{Child}
use Rattle.tm_tree.specs.declared.node.LeafRow.TheVariants.{Link}
use Rattle.tm_tree.specs.declared.node.NodeBody.TheVariants.{Folder, Leaf}
use Rattle.tm_tree.specs.Listings.{listing}
use Rattle.tm_copy.specs.Keeping.{kept_folder, kept_link}
use Rattle.tm_copy.specs.Making.{Adds}
use Rattle.tm_backup.specs.EntryPlans.{is_folder_plan}
use Rattle.tm_backup.specs.Steps.{MayGo}
use Rattle.tm_backup.proofs.Entering.{Far, begun_far, enter_far, far_start, far_next, far_left, may_far, ran_far, stages_stuck, stages_end, grows_end, names_end, went_far}
use Rattle.tm_backup.proofs.Folding.{no_items}
use Rattle.tm_backup.proofs.Stepping.{ran_none, unless_err, unless_none}
use Rattle.tm_backup.proofs.Walked.{begun_staged, enter_staged, is_staged, may_listed, may_make, may_staged, ran_whole, went_whole, stuck_whole, folder_stages, folder_counts, folder_made, folder_begun, staged_err, views_kept, kept_entry, link_entry, file_entry, entry_grows, entry_stages, entry_counts, no_counts}
use Rattle.tm_backup.proofs.FolderWalk.{ran_listed}
use Rattle.tm_backup.proofs.walk.+walk.Goals as goal

pub walk_entries-walk_entry-requires : goal.walk_entries-walk_entry-requires
walk_entries-walk_entry-requires g t c κs within =
    let far = far_left c.loop-entry.invariant.far c.in-Some.ensures.steps.0 in (
      omega (arith, c.decreases),
      (
        within,
        (
          subst (λ (b : Side → ℕ). MayGo g.W.World.told c.loop-entry.volume c.loop-entry.store (now (g.W.World.log c.loop-entry.world)) (b Volume) (b Store)) (sym c.loop-entry.invariant.same_blocks) (may_far c.requires.may c.requires.owed far),
          (enter_far c.requires.may c.requires.owed far, begun_far c.requires.may c.requires.owed far),
        ),
      ),
    )

pub walk_entries-returns-in_err-node-clause-ran : goal.walk_entries-returns-in_err-node-clause-ran
walk_entries-returns-in_err-node-clause-ran g t c =
    let far = far_left c.loop-entry.invariant.far c.in-Some.ensures.steps.0 in
    ran_far c.requires.may c.requires.owed far c.in_err-node.ensures.ran

pub walk_entries-returns-in_err-node-clause-went : goal.walk_entries-returns-in_err-node-clause-went
walk_entries-returns-in_err-node-clause-went g t c =
    let far = far_left c.loop-entry.invariant.far c.in-Some.ensures.steps.0 in
    let q = err_from_is_err_and c.from_residual.result c.from_residual.ensures.1 in
    unless_err ℕ c.from_residual.result c.in_err-node.field-0.0 _ _ (q.1 ∙ ap Err q.2) (went_far c.requires.may c.requires.owed far) c.in_err-node.ensures.went

pub walk_entries-returns-in_err-node-clause-stages : goal.walk_entries-returns-in_err-node-clause-stages
walk_entries-returns-in_err-node-clause-stages g t c =
    let far = far_left c.loop-entry.invariant.far c.in-Some.ensures.steps.0 in
    let q = err_from_is_err_and c.from_residual.result c.from_residual.ensures.1 in
    stages_stuck c.requires.may c.requires.owed far c.walk_entry.new.store (q.1 ∙ ap Err q.2) c.in_err-node.ensures.stages

pub walk_entries-returns-in_err-node-clause-blocks : goal.walk_entries-returns-in_err-node-clause-blocks
walk_entries-returns-in_err-node-clause-blocks g t c =
    c.in_err-node.ensures.blocks ∙ c.loop-entry.invariant.same_blocks

pub walk_entries-returns-in_err-node-clause-never_less : goal.walk_entries-returns-in_err-node-clause-never_less
walk_entries-returns-in_err-node-clause-never_less g t c =
    λ part. omega (arith, c.in_err-node.ensures.never_less part, c.loop-entry.invariant.never_less part)

pub walk_entries-returns-in_err-node-clause-fault : goal.walk_entries-returns-in_err-node-clause-fault
walk_entries-returns-in_err-node-clause-fault g t c =
    let q = err_from_is_err_and c.from_residual.result c.from_residual.ensures.1 in
    λ side is.
    let same : c.in_err-node.field-0.0 ≡ Fault side = cc (q.1 ∙ ap Err q.2, is) in
    omega (arith, c.in_err-node.ensures.fault side (ap Err same), c.loop-entry.invariant.never_less (part_at side))

pub walk_entries-returns-in_err-push-clause-ran : goal.walk_entries-returns-in_err-push-clause-ran
walk_entries-returns-in_err-push-clause-ran g t c =
    let far = far_left c.loop-entry.invariant.far c.in-Some.ensures.steps.0 in
    ran_far c.requires.may c.requires.owed far c.in_ok-node.ensures.ran

pub walk_entries-returns-in_err-push-clause-went : goal.walk_entries-returns-in_err-push-clause-went
walk_entries-returns-in_err-push-clause-went g t c =
    let far = far_left c.loop-entry.invariant.far c.in-Some.ensures.steps.0 in
    unless_none c.from_residual-in_err-push.result _ (went_far c.requires.may c.requires.owed far c.in_ok-node.ensures.went)

pub walk_entries-returns-in_err-push-clause-blocks : goal.walk_entries-returns-in_err-push-clause-blocks
walk_entries-returns-in_err-push-clause-blocks g t c =
    c.in_ok-node.ensures.blocks ∙ c.loop-entry.invariant.same_blocks

pub walk_entries-returns-in_err-push-clause-never_less : goal.walk_entries-returns-in_err-push-clause-never_less
walk_entries-returns-in_err-push-clause-never_less g t c =
    λ part. omega (arith, c.in_ok-node.ensures.never_less part, c.loop-entry.invariant.never_less part)

pub walk_entries-returns-clause-ran : goal.walk_entries-returns-clause-ran
walk_entries-returns-clause-ran g t c =
    c.loop-entry.invariant.far.ran

pub walk_entries-returns-clause-went : goal.walk_entries-returns-clause-went
walk_entries-returns-clause-went g t c =
    c.loop-entry.invariant.far.went

pub walk_entries-returns-clause-stages : goal.walk_entries-returns-clause-stages
walk_entries-returns-clause-stages g t c =
    let none : into_iter_items c.loop-entry.entry-iterator ≡ [] = no_items (into_iter_items c.loop-entry.entry-iterator) (omega (arith, c.loop-entry.invariant.count, c.in-None.ensures.steps.0)) in
    let far = far_left c.loop-entry.invariant.far none in
    stages_end far c.loop-entry.entries.items

pub walk_entries-returns-clause-grows : goal.walk_entries-returns-clause-grows
walk_entries-returns-clause-grows g t c =
    let none : into_iter_items c.loop-entry.entry-iterator ≡ [] = no_items (into_iter_items c.loop-entry.entry-iterator) (omega (arith, c.loop-entry.invariant.count, c.in-None.ensures.steps.0)) in
    let far = far_left c.loop-entry.invariant.far none in
    grows_end far

pub walk_entries-returns-clause-names : goal.walk_entries-returns-clause-names
walk_entries-returns-clause-names g t c =
    let none : into_iter_items c.loop-entry.entry-iterator ≡ [] = no_items (into_iter_items c.loop-entry.entry-iterator) (omega (arith, c.loop-entry.invariant.count, c.in-None.ensures.steps.0)) in
    let far = far_left c.loop-entry.invariant.far none in
    names_end far

pub walk_entries-returns-clause-begun : goal.walk_entries-returns-clause-begun
walk_entries-returns-clause-begun g t c =
    c.loop-entry.invariant.far.begun

pub walk_entries-returns-clause-walked : goal.walk_entries-returns-clause-walked
walk_entries-returns-clause-walked g t c =
    let none : into_iter_items c.loop-entry.entry-iterator ≡ [] = no_items (into_iter_items c.loop-entry.entry-iterator) (omega (arith, c.loop-entry.invariant.count, c.in-None.ensures.steps.0)) in
    let far = far_left c.loop-entry.invariant.far none in
    far.counts

pub walk_entries-returns-clause-blocks : goal.walk_entries-returns-clause-blocks
walk_entries-returns-clause-blocks g t c =
    c.loop-entry.invariant.same_blocks

pub walk_entries-returns-clause-never_less : goal.walk_entries-returns-clause-never_less
walk_entries-returns-clause-never_less g t c =
    c.loop-entry.invariant.never_less

pub walk_entries-loop-entry-init : goal.walk_entries-loop-entry-init
walk_entries-loop-entry-init g t c =
    let v = c.args.volume.now in
    let s = c.args.store.now in
    let l = g.W.World.log c.args.world.now in
    let p = c.args.path.now in
    let base = c.args.base in
    let planned = c.args.planned.items in
    let old = c.args.progress.now in
    let is = c.into_iter-entry-iterator.ensures.into_iter_gives in
    let start : Far g.W.World.told v v s s l l p base planned planned old.builder old.builder old.walked old.walked [] = far_start c.requires.may c.requires.owed c.requires.enter c.requires.begun in
    record {
      far = subst (λ (xs : List Child). Far g.W.World.told v v s s l l p base planned (into_iter_items c.into_iter-entry-iterator.result) old.builder old.builder old.walked old.walked xs) (sym c.new-entries.ensures.items) (far_left start (sym is.0));
      count = omega (arith, is.1, ap length is.0, c.args.planned.ok.0);
      same_blocks = refl;
      never_less = λ part. omega arith;
    }

pub walk_entries-loop-entry-preserved : goal.walk_entries-loop-entry-preserved
walk_entries-loop-entry-preserved g t c =
    let v = c.args.volume.now in
    let old = c.args.progress.now in
    let new = c.walk_entry.new.progress in
    let e = c.in_ok-node.ensures in
    let far = far_left c.loop-entry.invariant.far c.in-Some.ensures.steps.0 in
    let next = far_next c.requires.may c.requires.owed far c.in_ok-node.node new.builder new.walked (views_kept c.items_keep_bounds.ensures.tree v c.requires.may.kept) e.ran e.went e.stages e.grows e.begun e.walked in
    record {
      far = subst (λ (xs : List Child). Far g.W.World.told v c.walk_entry.new.volume c.args.store.now c.walk_entry.new.store (g.W.World.log c.args.world.now) (g.W.World.log c.walk_entry.new.world) c.args.path.now c.args.base c.args.planned.items
          (into_iter_items c.next.new.self) old.builder new.builder old.walked new.walked xs) (sym c.in_ok-push.ensures.items) next;
      count = omega (arith, c.loop-entry.invariant.count, c.in-Some.ensures.steps.1, ap length c.in-Some.ensures.steps.0);
      same_blocks = e.blocks ∙ c.loop-entry.invariant.same_blocks;
      never_less = λ part. omega (arith, e.never_less part, c.loop-entry.invariant.never_less part);
    }

pub walk_folder-returns-in_err-attrs-clause-ran : goal.walk_folder-returns-in_err-attrs-clause-ran
walk_folder-returns-in_err-attrs-clause-ran g t c =
    ran_listed g.W.World.told c.args.volume.now c.list_view.new.volume c.args.store.now (g.W.World.log c.args.world.now) c.in_err-attrs.ensures.volume

pub walk_folder-stage_folder-requires-clause-may : goal.walk_folder-stage_folder-requires-clause-may
walk_folder-stage_folder-requires-clause-may g t c =
    may_listed (g.W.World.log c.args.world.now) c.requires.may c.in_ok-attrs.ensures.volume

pub walk_folder-returns-in_err-planned-clause-stages : goal.walk_folder-returns-in_err-planned-clause-stages
walk_folder-returns-in_err-planned-clause-stages g t c =
    let v = c.args.volume.now in
    let q = err_from_is_err_and c.from_residual-in_err-planned.result c.from_residual-in_err-planned.ensures.1 in
    staged_err g.W.World.told v c.list_view.new.volume c.args.store.now c.stage_folder.new.store (g.W.World.log c.args.world.now) c.args.path.now c.args.base c.in_ok-attrs.ensures.volume
    (views_kept c.items_keep_bounds.ensures.tree v c.requires.may.kept) c.requires.shown (q.1 ∙ ap Err q.2) c.in_err-planned.ensures.stages

pub walk_folder-walk_entries-requires : goal.walk_folder-walk_entries-requires
walk_folder-walk_entries-requires g t c κs within =
    let staged = c.in_ok-planned.ensures in
    let f = is_staged c.args.path.now c.in_ok-attrs.field-0.attrs c.in_ok-attrs.field-0.rows.items c.in_ok-planned.planned.items c.items_keep_bounds.ensures.tree c.requires.may c.in_ok-attrs.ensures.volume
    staged.ran staged.went c.in_ok-attrs.ensures.listing staged.heads in (
      omega (arith, c.decreases),
      (
        within,
        (
          subst (λ (b : Side → ℕ). MayGo g.W.World.told c.list_view.new.volume c.stage_folder.new.store (now (g.W.World.log c.stage_folder.new.world)) (b Volume) (b Store)) (sym staged.blocks) (may_staged f),
          (enter_staged f c.args.base staged.enter, (begun_staged f c.requires.begun, λ k. omega (arith, staged.owed k))),
        ),
      ),
    )

pub walk_folder-returns-in_err-entries-clause-ran : goal.walk_folder-returns-in_err-entries-clause-ran
walk_folder-returns-in_err-entries-clause-ran g t c =
    let staged = c.in_ok-planned.ensures in
    let f = is_staged c.args.path.now c.in_ok-attrs.field-0.attrs c.in_ok-attrs.field-0.rows.items c.in_ok-planned.planned.items c.items_keep_bounds.ensures.tree c.requires.may c.in_ok-attrs.ensures.volume
    staged.ran staged.went c.in_ok-attrs.ensures.listing staged.heads in
    ran_whole f c.in_err-entries.ensures.ran

pub walk_folder-returns-in_err-entries-clause-went : goal.walk_folder-returns-in_err-entries-clause-went
walk_folder-returns-in_err-entries-clause-went g t c =
    let staged = c.in_ok-planned.ensures in
    let f = is_staged c.args.path.now c.in_ok-attrs.field-0.attrs c.in_ok-attrs.field-0.rows.items c.in_ok-planned.planned.items c.items_keep_bounds.ensures.tree c.requires.may c.in_ok-attrs.ensures.volume
    staged.ran staged.went c.in_ok-attrs.ensures.listing staged.heads in
    let q = err_from_is_err_and c.from_residual-in_err-entries.result c.from_residual-in_err-entries.ensures.1 in
    unless_err (List Child) c.from_residual-in_err-entries.result c.in_err-entries.field-0.0 _ _ (q.1 ∙ ap Err q.2) (went_whole f) c.in_err-entries.ensures.went

pub walk_folder-returns-in_err-entries-clause-stages : goal.walk_folder-returns-in_err-entries-clause-stages
walk_folder-returns-in_err-entries-clause-stages g t c =
    let staged = c.in_ok-planned.ensures in
    let f = is_staged c.args.path.now c.in_ok-attrs.field-0.attrs c.in_ok-attrs.field-0.rows.items c.in_ok-planned.planned.items c.items_keep_bounds.ensures.tree c.requires.may c.in_ok-attrs.ensures.volume
    staged.ran staged.went c.in_ok-attrs.ensures.listing staged.heads in
    let q = err_from_is_err_and c.from_residual-in_err-entries.result c.from_residual-in_err-entries.ensures.1 in
    stuck_whole f c.args.base c.walk_entries.new.store (q.1 ∙ ap Err q.2) staged.stages c.in_err-entries.ensures.stages

pub walk_folder-returns-in_err-node-clause-ran : goal.walk_folder-returns-in_err-node-clause-ran
walk_folder-returns-in_err-node-clause-ran g t c =
    let staged = c.in_ok-planned.ensures in
    let f = is_staged c.args.path.now c.in_ok-attrs.field-0.attrs c.in_ok-attrs.field-0.rows.items c.in_ok-planned.planned.items c.items_keep_bounds.ensures.tree c.requires.may c.in_ok-attrs.ensures.volume
    staged.ran staged.went c.in_ok-attrs.ensures.listing staged.heads in
    ran_whole f c.in_ok-entries.ensures.ran

pub walk_folder-returns-in_err-node-clause-went : goal.walk_folder-returns-in_err-node-clause-went
walk_folder-returns-in_err-node-clause-went g t c =
    let staged = c.in_ok-planned.ensures in
    let f = is_staged c.args.path.now c.in_ok-attrs.field-0.attrs c.in_ok-attrs.field-0.rows.items c.in_ok-planned.planned.items c.items_keep_bounds.ensures.tree c.requires.may c.in_ok-attrs.ensures.volume
    staged.ran staged.went c.in_ok-attrs.ensures.listing staged.heads in
    unless_none c.from_residual-in_err-node.result _ (went_whole f c.in_ok-entries.ensures.went)

pub walk_folder-returns-clause-ran : goal.walk_folder-returns-clause-ran
walk_folder-returns-clause-ran g t c =
    let staged = c.in_ok-planned.ensures in
    let f = is_staged c.args.path.now c.in_ok-attrs.field-0.attrs c.in_ok-attrs.field-0.rows.items c.in_ok-planned.planned.items c.items_keep_bounds.ensures.tree c.requires.may c.in_ok-attrs.ensures.volume
    staged.ran staged.went c.in_ok-attrs.ensures.listing staged.heads in
    ran_whole f c.in_ok-entries.ensures.ran

pub walk_folder-returns-clause-went : goal.walk_folder-returns-clause-went
walk_folder-returns-clause-went g t c =
    let staged = c.in_ok-planned.ensures in
    let f = is_staged c.args.path.now c.in_ok-attrs.field-0.attrs c.in_ok-attrs.field-0.rows.items c.in_ok-planned.planned.items c.items_keep_bounds.ensures.tree c.requires.may c.in_ok-attrs.ensures.volume
    staged.ran staged.went c.in_ok-attrs.ensures.listing staged.heads in
    went_whole f c.in_ok-entries.ensures.went

pub walk_folder-returns-clause-stages : goal.walk_folder-returns-clause-stages
walk_folder-returns-clause-stages g t c =
    let staged = c.in_ok-planned.ensures in
    let f = is_staged c.args.path.now c.in_ok-attrs.field-0.attrs c.in_ok-attrs.field-0.rows.items c.in_ok-planned.planned.items c.items_keep_bounds.ensures.tree c.requires.may c.in_ok-attrs.ensures.volume
    staged.ran staged.went c.in_ok-attrs.ensures.listing staged.heads in
    folder_stages f c.args.base c.walk_entries.new.store (Ok c.in_ok-entries.entries.items) staged.stages c.in_ok-entries.ensures.stages

pub walk_folder-returns-clause-grows : goal.walk_folder-returns-clause-grows
walk_folder-returns-clause-grows g t c =
    let staged = c.in_ok-planned.ensures in
    let f = is_staged c.args.path.now c.in_ok-attrs.field-0.attrs c.in_ok-attrs.field-0.rows.items c.in_ok-planned.planned.items c.items_keep_bounds.ensures.tree c.requires.may c.in_ok-attrs.ensures.volume
    staged.ran staged.went c.in_ok-attrs.ensures.listing staged.heads in
    let base = c.args.base in
    let attrs = c.in_ok-attrs.field-0.attrs in
    let mid = c.walk_entries.new.progress.builder in
    let new = c.folder.new.self in
    let made = c.in_ok-entries.ensures in
    let entries = c.in_ok-entries.entries.items in
    let node = c.in_ok-node.node in
    let adds = subst (λ (gr : Nodes). Adds (kept_folder gr base attrs entries) mid (Folder attrs entries) new node) c.graph.ensures
    (subst (λ (es : List Child). Adds (kept_folder c.graph.result.now base attrs es) mid (Folder attrs es) new node) c.of.ensures c.in_ok-node.ensures.ok) in
    folder_made f base c.args.progress.now.builder mid new entries node made.went made.grows made.names staged.owed staged.planned made.begun adds

pub walk_folder-returns-clause-begun : goal.walk_folder-returns-clause-begun
walk_folder-returns-clause-begun g t c =
    let staged = c.in_ok-planned.ensures in
    let f = is_staged c.args.path.now c.in_ok-attrs.field-0.attrs c.in_ok-attrs.field-0.rows.items c.in_ok-planned.planned.items c.items_keep_bounds.ensures.tree c.requires.may c.in_ok-attrs.ensures.volume
    staged.ran staged.went c.in_ok-attrs.ensures.listing staged.heads in
    let base = c.args.base in
    let attrs = c.in_ok-attrs.field-0.attrs in
    let mid = c.walk_entries.new.progress.builder in
    let new = c.folder.new.self in
    let made = c.in_ok-entries.ensures in
    let entries = c.in_ok-entries.entries.items in
    let node = c.in_ok-node.node in
    let adds = subst (λ (gr : Nodes). Adds (kept_folder gr base attrs entries) mid (Folder attrs entries) new node) c.graph.ensures
    (subst (λ (es : List Child). Adds (kept_folder c.graph.result.now base attrs es) mid (Folder attrs es) new node) c.of.ensures c.in_ok-node.ensures.ok) in
    folder_begun f base c.args.progress.now.builder mid new entries node made.went made.grows made.names staged.owed staged.planned made.begun adds

pub walk_folder-returns-clause-walked : goal.walk_folder-returns-clause-walked
walk_folder-returns-clause-walked g t c =
    let staged = c.in_ok-planned.ensures in
    let f = is_staged c.args.path.now c.in_ok-attrs.field-0.attrs c.in_ok-attrs.field-0.rows.items c.in_ok-planned.planned.items c.items_keep_bounds.ensures.tree c.requires.may c.in_ok-attrs.ensures.volume
    staged.ran staged.went c.in_ok-attrs.ensures.listing staged.heads in
    folder_counts f c.args.progress.now.walked c.saturating_add-progress.result c.walk_entries.new.progress.walked c.saturating_add-progress.ensures c.in_ok-entries.ensures.walked

pub walk_entry-returns-in_err-node-in-File-clause-ran : goal.walk_entry-returns-in_err-node-in-File-clause-ran
walk_entry-returns-in_err-node-in-File-clause-ran g t c =
    ran_none g.W.World.told c.args.volume.now c.args.store.now (g.W.World.log c.args.world.now)

pub walk_entry-returns-in_err-node-in-Link-clause-ran : goal.walk_entry-returns-in_err-node-in-Link-clause-ran
walk_entry-returns-in_err-node-in-Link-clause-ran g t c =
    ran_none g.W.World.told c.args.volume.now c.args.store.now (g.W.World.log c.args.world.now)

pub walk_entry-returns-in_err-place-in-Folder-clause-ran : goal.walk_entry-returns-in_err-place-in-Folder-clause-ran
walk_entry-returns-in_err-place-in-Folder-clause-ran g t c =
    ran_none g.W.World.told c.args.volume.now c.args.store.now (g.W.World.log c.args.world.now)

pub walk_entry-returns-in-Kept-clause-ran : goal.walk_entry-returns-in-Kept-clause-ran
walk_entry-returns-in-Kept-clause-ran g t c =
    ran_none g.W.World.told c.args.volume.now c.args.store.now (g.W.World.log c.args.world.now)

pub walk_entry-returns-in_ok-node-in-File-clause-ran : goal.walk_entry-returns-in_ok-node-in-File-clause-ran
walk_entry-returns-in_ok-node-in-File-clause-ran g t c =
    ran_none g.W.World.told c.args.volume.now c.args.store.now (g.W.World.log c.args.world.now)

pub walk_entry-returns-in_ok-node-in-Link-clause-ran : goal.walk_entry-returns-in_ok-node-in-Link-clause-ran
walk_entry-returns-in_ok-node-in-Link-clause-ran g t c =
    ran_none g.W.World.told c.args.volume.now c.args.store.now (g.W.World.log c.args.world.now)

pub walk_entry-returns-in-Kept-clause-grows : goal.walk_entry-returns-in-Kept-clause-grows
walk_entry-returns-in-Kept-clause-grows g t c =
    let f = may_make (g.W.World.log c.args.world.now) c.args.path.now c.args.base (record { name = c.args.name.now; base = c.args.below; plan = c.args.plan }) c.items_keep_bounds.ensures.tree c.requires.may c.requires.begun in
    λ root files bytes fresh suits are planned. kept_entry f root files bytes suits fresh c.in-Kept.node c.in-Kept.is are planned

pub walk_entry-returns-in_ok-node-in-Link-clause-grows : goal.walk_entry-returns-in_ok-node-in-Link-clause-grows
walk_entry-returns-in_ok-node-in-Link-clause-grows g t c =
    let f = may_make (g.W.World.log c.args.world.now) c.args.path.now c.args.base (record { name = c.args.name.now; base = c.args.below; plan = c.args.plan }) c.items_keep_bounds.ensures.tree c.requires.may c.requires.begun in
    let link = c.in-Link in
    let adds = subst (λ (gr : Nodes). Adds (kept_link gr c.args.below link.stamp) c.args.progress.now.builder (Leaf (Link link.attrs link.stamp link.target)) c.link.new.self c.in_ok-node-in-Link.node) c.graph.ensures c.in_ok-node-in-Link.ensures.ok in
    λ root files bytes fresh suits are planned. link_entry f root files bytes suits fresh link.attrs link.stamp link.target c.link.new.self c.in_ok-node-in-Link.node link.is are planned adds

pub walk_entry-returns-in_ok-node-in-File-clause-grows : goal.walk_entry-returns-in_ok-node-in-File-clause-grows
walk_entry-returns-in_ok-node-in-File-clause-grows g t c =
    let f = may_make (g.W.World.log c.args.world.now) c.args.path.now c.args.base (record { name = c.args.name.now; base = c.args.below; plan = c.args.plan }) c.items_keep_bounds.ensures.tree c.requires.may c.requires.begun in
    let file = c.in-File in
    λ root files bytes fresh suits are planned. file_entry f root files bytes suits fresh file.attrs file.stamp file.blob c.file.new.self c.in_ok-node-in-File.node file.is are planned c.in_ok-node-in-File.ensures.number c.in_ok-node-in-File.ensures.ok

pub walk_entry-returns-in-Kept-clause-walked : goal.walk_entry-returns-in-Kept-clause-walked
walk_entry-returns-in-Kept-clause-walked g t c =
    no_counts c.args.volume.now c.args.path.now c.args.name.now c.args.below c.args.plan c.args.progress.now.walked (ap is_folder_plan c.in-Kept.is)

pub walk_entry-returns-in_ok-node-in-File-clause-walked : goal.walk_entry-returns-in_ok-node-in-File-clause-walked
walk_entry-returns-in_ok-node-in-File-clause-walked g t c =
    no_counts c.args.volume.now c.args.path.now c.args.name.now c.args.below c.args.plan c.args.progress.now.walked (ap is_folder_plan c.in-File.is)

pub walk_entry-returns-in_ok-node-in-Link-clause-walked : goal.walk_entry-returns-in_ok-node-in-Link-clause-walked
walk_entry-returns-in_ok-node-in-Link-clause-walked g t c =
    no_counts c.args.volume.now c.args.path.now c.args.name.now c.args.below c.args.plan c.args.progress.now.walked (ap is_folder_plan c.in-Link.is)

pub walk_entry-returns-in_ok-place-in-Folder-clause-stages : goal.walk_entry-returns-in_ok-place-in-Folder-clause-stages
walk_entry-returns-in_ok-place-in-Folder-clause-stages g t c =
    let f = may_make (g.W.World.log c.args.world.now) c.args.path.now c.args.base (record { name = c.args.name.now; base = c.args.below; plan = c.args.plan }) c.items_keep_bounds.ensures.tree c.requires.may c.requires.begun in
    entry_stages f c.in-Folder.is c.in_ok-place-in-Folder.place c.in_ok-place-in-Folder.ensures.path c.requires.enter.below c.walk_folder.new.store c.walk_folder.result c.walk_folder.ensures.stages

pub walk_entry-returns-in_ok-place-in-Folder-clause-grows : goal.walk_entry-returns-in_ok-place-in-Folder-clause-grows
walk_entry-returns-in_ok-place-in-Folder-clause-grows g t c =
    let f = may_make (g.W.World.log c.args.world.now) c.args.path.now c.args.base (record { name = c.args.name.now; base = c.args.below; plan = c.args.plan }) c.items_keep_bounds.ensures.tree c.requires.may c.requires.begun in
    entry_grows f c.in-Folder.is c.in_ok-place-in-Folder.place c.in_ok-place-in-Folder.ensures.path c.requires.enter.below c.walk_folder.new.store (g.W.World.log c.walk_folder.new.world) c.walk_folder.new.progress.builder c.walk_folder.result c.walk_folder.ensures.grows

pub walk_entry-returns-in_ok-place-in-Folder-clause-begun : goal.walk_entry-returns-in_ok-place-in-Folder-clause-begun
walk_entry-returns-in_ok-place-in-Folder-clause-begun g t c =
    c.walk_folder.ensures.begun

pub walk_entry-returns-in_ok-place-in-Folder-clause-walked : goal.walk_entry-returns-in_ok-place-in-Folder-clause-walked
walk_entry-returns-in_ok-place-in-Folder-clause-walked g t c =
    let f = may_make (g.W.World.log c.args.world.now) c.args.path.now c.args.base (record { name = c.args.name.now; base = c.args.below; plan = c.args.plan }) c.items_keep_bounds.ensures.tree c.requires.may c.requires.begun in
    λ bytes. entry_counts f c.in-Folder.is c.in_ok-place-in-Folder.place c.in_ok-place-in-Folder.ensures.path c.requires.enter.below c.args.progress.now.walked c.walk_folder.new.progress.walked c.walk_folder.result bytes (c.walk_folder.ensures.walked bytes)
