use Rattle.std.proofs.Common.{◌≡◌, ◌-◌, ◌*◌, ◌/◌, ◌≤◌, ◌∙◌, ℕ, List, length, Err, rules, sym, ap, subst, arith}
use Rattle.std.proofs.lemmas.Result.{IfOk-weaker}
use Rattle.tm_world.specs.Outside.{disk}
use Rattle.tm_world.specs.Log.{now}
use Rattle.tm_world.proofs.Going.{Steps-then}
use Rattle.tm_chain.specs.Chain.{IsBlockList, LiesOn}
use Rattle.tm_chain.specs.Way.{Names, MayFollow, EndsChain, last_len}
use Rattle.tm_chain.specs.Walk.{IsLast, IsRead, last_of}
use Rattle.tm_chain.specs.declared.error.ChainError.TheVariants.{BadChain}
use Rattle.tm_chain.proofs.Reading.{IfOk-both, list_of, breaks_on, breaks_last, lies_on}
use Rattle.tm_chain.proofs.read.read_chain.Goals as goal

pub returns-in_err-advance-clause-bad : goal.returns-in_err-advance-clause-bad
returns-in_err-advance-clause-bad g c told block is =
    let same : c.in_err-advance.field-0.0 ≡ BadChain block = search rules in
    let stays = ap (λ s. (disk c.args.side s).bytes) (c.loop-k.invariant.steps told).ends in
    let P : (ℕ → List ℕ) → Type 0 = λ bytes. (next : ℕ) → Names next (bytes block) → MayFollow (length c.loop-k.walk.used) c.loop-k.walk.blocks.items next → ⊥ in
    breaks_on c.args.first c.args.len c.args.total block c.loop-k.walk.blocks.items c.loop-k.walk.text.items c.loop-k.walk.used _
    c.loop-k.invariant.walk c.loop-k.invariant.size c.loop-k.invariant.starts (c.loop-k.invariant.read told)
    (c.in_err-advance.ensures.place block (ap (λ e. Err e) same)) (omega (arith, c.loop-k.invariant.many)) (subst P stays (c.in_err-advance.ensures.bad told block (ap (λ e. Err e) same)))

pub loop-k-preserved : goal.loop-k-preserved
loop-k-preserved g c = record {
  walk = c.in_ok-advance.ensures.walk;
  size = c.in_ok-advance.ensures.size ∙ c.loop-k.invariant.size;
  many = omega (arith, c.in_ok-advance.ensures.longer, c.loop-k.invariant.many);
  starts = c.in_ok-advance.ensures.starts ∙ c.loop-k.invariant.starts;
  read = λ told. let stays = ap (λ s. (disk c.args.side s).bytes) (c.loop-k.invariant.steps told).ends in
      subst (IsRead c.advance.new.walk.blocks.items c.advance.new.walk.text.items) stays (c.in_ok-advance.ensures.read told (subst (IsRead c.loop-k.walk.blocks.items c.loop-k.walk.text.items) (sym stays) (c.loop-k.invariant.read told)));
  steps = λ told. Steps-then _ _ _ (c.loop-k.invariant.steps told) (c.in_ok-advance.ensures.steps told);
  blocks = search rules;
  faults = search rules;
}

pub returns-clause-blocks_are : goal.returns-clause-blocks_are
returns-clause-blocks_are g c = IfOk-weaker c.finish.result _ _ (λ chain is. subst (IsBlockList c.args.first c.args.total) (sym is) (list_of _ _ _ _ _ c.loop-k.invariant.walk c.loop-k.invariant.size c.loop-k.invariant.starts)) c.finish.ensures.blocks_are

pub returns-clause-lies : goal.returns-clause-lies
returns-clause-lies g c told =
    let stays = ap (λ s. (disk c.args.side s).bytes) (c.loop-k.invariant.steps told).ends in
    let rest : ℕ = c.args.len - 4092 * ((c.args.len - 1) / 4092) in
    let short : rest ≤ 4092 = omega arith in
    IfOk-both c.finish.result _ _ _
    (λ chain is last. subst (λ bs. LiesOn bs chain.text (disk c.args.side (now (g.W.World.log c.args.world.now))).bytes) (sym is)
    (lies_on c.loop-k.walk.blocks.items c.loop-k.walk.text.items c.loop-k.walk.used chain.text rest _ c.loop-k.invariant.walk (c.loop-k.invariant.read told) short (subst (λ bytes. IsLast c.loop-k.walk.text.items chain.text rest (bytes (last_of c.loop-k.walk.blocks.items))) stays last)))
    c.finish.ensures.blocks_are (c.finish.ensures.read told)

pub returns-clause-bad : goal.returns-clause-bad
returns-clause-bad g c told block is =
    let stays = ap (λ s. (disk c.args.side s).bytes) (c.loop-k.invariant.steps told).ends in
    let rest : c.args.len - 4092 * ((c.args.len - 1) / 4092) ≡ last_len c.args.len = omega arith in
    let P : (ℕ → List ℕ) → Type 0 = λ bytes. EndsChain (last_len c.args.len) (bytes block) → ⊥ in
    breaks_last c.args.first c.args.len c.args.total block c.loop-k.walk.blocks.items c.loop-k.walk.text.items c.loop-k.walk.used _
    c.loop-k.invariant.walk c.loop-k.invariant.size c.loop-k.invariant.starts (c.loop-k.invariant.read told)
    (c.finish.ensures.place block is) (omega (arith, c.loop-k.invariant.many)) (subst P stays (subst (λ r. EndsChain r ((disk c.args.side (now (g.W.World.log c.loop-k.world))).bytes block) → ⊥) rest (c.finish.ensures.bad told block is)))
