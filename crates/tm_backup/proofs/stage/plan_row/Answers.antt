use Rattle.std.proofs.Common.{◌≡◌, Err, [], ◌∷◌, ◌++◌, sym, ap, ◌∙◌, subst}
use Rattle.std.proofs.lemmas.Result.{err_from_is_err_and}
use Rattle.tm_base.specs.Paths.{Names}
use Rattle.tm_graph.specs.Nodes.{Nodes}
use Rattle.tm_tree.specs.declared.listing.ListKind.{ListKind}
use Rattle.tm_tree.specs.declared.listing.ListKind.TheVariants as kind
use Rattle.tm_tree.specs.Copies.{bare}
use Rattle.tm_tree.specs.Trees.{IsTree, item_at}
use Rattle.tm_tree.proofs.ViewsKept.{view_kept}
use Rattle.tm_volume.specs.Seen.{tree_on}
use Rattle.tm_copy.specs.Driving.{base_child}
use Rattle.tm_copy.specs.Listed.{StandsAs}
use Rattle.tm_backup.specs.Growing.{Suits}
use Rattle.tm_backup.specs.Steps.{store_bytes}
use Rattle.tm_backup.specs.Taking.{view_on, prev_on, backup_of}
use Rattle.tm_backup.specs.declared.stage.EntryPlan.{EntryPlan}
use Rattle.tm_backup.specs.EntryPlans.{IsPlanFor, row_blocks, kind_blocks}
use Rattle.tm_backup.proofs.Planning.{entry_suits, folder_plan, link_plan}
use Rattle.tm_backup.proofs.Staging.{stages_err, stages_ok}
use Rattle.tm_backup.proofs.Stepping.{ran_none}
use Rattle.tm_backup.proofs.stage.plan_row.Goals as goal

pub returns-in_err-place-in-File-clause-ran : goal.returns-in_err-place-in-File-clause-ran
returns-in_err-place-in-File-clause-ran g c = ran_none g.W.World.told c.args.volume.now c.args.store.now (g.W.World.log c.args.world.now)

pub returns-in-Folder-clause-ran : goal.returns-in-Folder-clause-ran
returns-in-Folder-clause-ran g c = ran_none g.W.World.told c.args.volume.now c.args.store.now (g.W.World.log c.args.world.now)

pub returns-in-Link-clause-ran : goal.returns-in-Link-clause-ran
returns-in-Link-clause-ran g c = ran_none g.W.World.told c.args.volume.now c.args.store.now (g.W.World.log c.args.world.now)

pub plan_file-requires-clause-file : goal.plan_file-requires-clause-file
plan_file-requires-clause-file g c = λ bytes.
    let v = c.args.volume.now in
    let stands : StandsAs (view_on v bytes) (c.args.path.now ++ c.args.row.name ∷ []) (kind.File c.in-File.attrs c.in-File.stamp c.in-File.size) = subst (λ (k : ListKind). StandsAs (view_on v bytes) (c.args.path.now ++ c.args.row.name ∷ []) k) c.in-File.is (c.requires.row bytes) in
    subst (λ (q : Names). StandsAs (view_on v bytes) q (kind.File c.in-File.attrs c.in-File.stamp c.in-File.size)) (sym c.in_ok-place-in-File.ensures.path) stands

pub returns-in-Folder-clause-enter : goal.returns-in-Folder-clause-enter
returns-in-Folder-clause-enter g c = record {
  below = c.base_child-base.ensures ∙ ap (λ (n : Nodes). base_child n c.args.base c.args.row.name) c.graph.ensures;
  shown = λ _ bytes. subst (λ (k : ListKind). StandsAs (view_on c.args.volume.now bytes) (c.args.path.now ++ c.args.row.name ∷ []) k) c.in-Folder.is (c.requires.row bytes);
}

pub returns-in-Folder-clause-planned : goal.returns-in-Folder-clause-planned
returns-in-Folder-clause-planned g c = λ root files bytes suits.
    let v = c.args.volume.now in
    let s = c.args.store.now in
    let p = c.args.path.now in
    let name = c.args.row.name in
    let told = g.W.World.told in
    let l = g.W.World.log c.args.world.now in
    let graph = c.requires.may.graph in
    let tree : IsTree (view_on v bytes) = view_kept v.fixed (tree_on v bytes) (c.items_keep_bounds.ensures.tree v bytes c.requires.may.kept) in
    let below : c.base_child-base.result ≡ base_child s.nodes c.args.base name = c.base_child-base.ensures ∙ ap (λ (n : Nodes). base_child n c.args.base name) c.graph.ensures in
    let here : Suits told s l (p ++ name ∷ []) c.base_child-base.result root bytes = entry_suits told s v l p c.args.base root files bytes graph tree suits name c.base_child-base.result below in
    let stands : StandsAs (view_on v bytes) (p ++ name ∷ []) kind.Folder = subst (λ (k : ListKind). StandsAs (view_on v bytes) (p ++ name ∷ []) k) c.in-Folder.is (c.requires.row bytes) in
    record { base = here.here; plan = folder_plan told s v l p c.args.base root files bytes graph tree suits (store_bytes l) (p ++ name ∷ []) stands }

pub returns-in-Link-clause-planned : goal.returns-in-Link-clause-planned
returns-in-Link-clause-planned g c = λ root files bytes suits.
    let v = c.args.volume.now in
    let s = c.args.store.now in
    let p = c.args.path.now in
    let name = c.args.row.name in
    let told = g.W.World.told in
    let l = g.W.World.log c.args.world.now in
    let graph = c.requires.may.graph in
    let tree : IsTree (view_on v bytes) = view_kept v.fixed (tree_on v bytes) (c.items_keep_bounds.ensures.tree v bytes c.requires.may.kept) in
    let below : c.base_child-base.result ≡ base_child s.nodes c.args.base name = c.base_child-base.ensures ∙ ap (λ (n : Nodes). base_child n c.args.base name) c.graph.ensures in
    let here : Suits told s l (p ++ name ∷ []) c.base_child-base.result root bytes = entry_suits told s v l p c.args.base root files bytes graph tree suits name c.base_child-base.result below in
    let link = kind.Link c.in-Link.attrs c.in-Link.stamp c.in-Link.target in
    let stands : StandsAs (view_on v bytes) (p ++ name ∷ []) link = subst (λ (k : ListKind). StandsAs (view_on v bytes) (p ++ name ∷ []) k) c.in-Link.is (c.requires.row bytes) in
    record { base = here.here; plan = link_plan told s v l p c.args.base root files bytes graph tree suits (store_bytes l) (p ++ name ∷ []) c.in-Link.attrs c.in-Link.stamp c.in-Link.target stands }

pub returns-in_err-plan-in-File-clause-stages : goal.returns-in_err-plan-in-File-clause-stages
returns-in_err-plan-in-File-clause-stages g c = λ root files bytes suits.
    let v = c.args.volume.now in
    let s = c.args.store.now in
    let p = c.args.path.now in
    let name = c.args.row.name in
    let told = g.W.World.told in
    let l = g.W.World.log c.args.world.now in
    let graph = c.requires.may.graph in
    let tree : IsTree (view_on v bytes) = view_kept v.fixed (tree_on v bytes) (c.items_keep_bounds.ensures.tree v bytes c.requires.may.kept) in
    let below : c.base_child-base.result ≡ base_child s.nodes c.args.base name = c.base_child-base.ensures ∙ ap (λ (n : Nodes). base_child n c.args.base name) c.graph.ensures in
    let here : Suits told s l (p ++ name ∷ []) c.base_child-base.result root bytes = entry_suits told s v l p c.args.base root files bytes graph tree suits name c.base_child-base.result below in
    let file = kind.File c.in-File.attrs c.in-File.stamp c.in-File.size in
    let place = c.in_ok-place-in-File.ensures.path in
    let q = err_from_is_err_and c.from_residual-in_err-plan-in-File.result c.from_residual-in_err-plan-in-File.ensures.1 in
    let blocks : row_blocks (prev_on s files root) p c.args.row ≡ kind_blocks (item_at (bare (prev_on s files root)) c.in_ok-place-in-File.place) file =
    (λ j. kind_blocks (item_at (bare (prev_on s files root)) (sym place j)) (c.in-File.is j)) in
    stages_err EntryPlan _ _ _ _ _ c.from_residual-in_err-plan-in-File.result c.in_err-plan-in-File.field-0.0 (q.1 ∙ ap Err q.2) blocks
    (c.in_err-plan-in-File.ensures.stages root files bytes (subst (λ (x : Names). Suits told s l x c.base_child-base.result root bytes) (sym place) here))

pub returns-in_ok-plan-in-File-clause-stages : goal.returns-in_ok-plan-in-File-clause-stages
returns-in_ok-plan-in-File-clause-stages g c = λ root files bytes suits.
    let v = c.args.volume.now in
    let s = c.args.store.now in
    let p = c.args.path.now in
    let name = c.args.row.name in
    let told = g.W.World.told in
    let l = g.W.World.log c.args.world.now in
    let graph = c.requires.may.graph in
    let tree : IsTree (view_on v bytes) = view_kept v.fixed (tree_on v bytes) (c.items_keep_bounds.ensures.tree v bytes c.requires.may.kept) in
    let below : c.base_child-base.result ≡ base_child s.nodes c.args.base name = c.base_child-base.ensures ∙ ap (λ (n : Nodes). base_child n c.args.base name) c.graph.ensures in
    let here : Suits told s l (p ++ name ∷ []) c.base_child-base.result root bytes = entry_suits told s v l p c.args.base root files bytes graph tree suits name c.base_child-base.result below in
    let file = kind.File c.in-File.attrs c.in-File.stamp c.in-File.size in
    let place = c.in_ok-place-in-File.ensures.path in
    let blocks : row_blocks (prev_on s files root) p c.args.row ≡ kind_blocks (item_at (bare (prev_on s files root)) c.in_ok-place-in-File.place) file =
    (λ j. kind_blocks (item_at (bare (prev_on s files root)) (sym place j)) (c.in-File.is j)) in
    stages_ok {A = EntryPlan} _ _ _ _ _ c.in_ok-plan-in-File.plan blocks
    (c.in_ok-plan-in-File.ensures.stages root files bytes (subst (λ (x : Names). Suits told s l x c.base_child-base.result root bytes) (sym place) here))

pub returns-in_ok-plan-in-File-clause-planned : goal.returns-in_ok-plan-in-File-clause-planned
returns-in_ok-plan-in-File-clause-planned g c = λ root files bytes suits.
    let v = c.args.volume.now in
    let s = c.args.store.now in
    let p = c.args.path.now in
    let name = c.args.row.name in
    let told = g.W.World.told in
    let l = g.W.World.log c.args.world.now in
    let graph = c.requires.may.graph in
    let tree : IsTree (view_on v bytes) = view_kept v.fixed (tree_on v bytes) (c.items_keep_bounds.ensures.tree v bytes c.requires.may.kept) in
    let below : c.base_child-base.result ≡ base_child s.nodes c.args.base name = c.base_child-base.ensures ∙ ap (λ (n : Nodes). base_child n c.args.base name) c.graph.ensures in
    let here : Suits told s l (p ++ name ∷ []) c.base_child-base.result root bytes = entry_suits told s v l p c.args.base root files bytes graph tree suits name c.base_child-base.result below in
    let place = c.in_ok-place-in-File.ensures.path in
    let b = backup_of s files root (view_on v bytes) in
    let plan = c.in_ok-plan-in-File.ensures.planned root files bytes (subst (λ (x : Names). Suits told s l x c.base_child-base.result root bytes) (sym place) here) in
    record { base = here.here; plan = subst (λ (x : Names). IsPlanFor told b (store_bytes (g.W.World.log c.plan_file.new.world)) x c.in_ok-plan-in-File.plan) place plan }
