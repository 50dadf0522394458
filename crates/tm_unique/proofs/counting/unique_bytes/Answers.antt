use Rattle.std.proofs.Common.{◌≡◌, ℕ, ◌<◌, ◌^◌, Result, Ok, Err, IfOk, ◌∙◌, sym, ap, arith}
use Rattle.tm_base.specs.Paths.{Names}
use Rattle.tm_graph.specs.Nodes.{Nodes, stored_in}
use Rattle.tm_identity.specs.Uniques.{only_at, only_from, only_of}
use Rattle.tm_identity.proofs.Fits.{unique_fits}
use Rattle.tm_identity.proofs.Shared.{unique_is}
use Rattle.tm_unique.specs.Counts.{AreUnique, IsSnapshot}
use Rattle.tm_unique.proofs.Sizes.{sums_same}
use Rattle.tm_unique.proofs.counting.unique_bytes.Goals as goal

-- no more bytes are unique than are stored
fits : (g : Nodes) (root : ℕ) (p : Names) → IsSnapshot g root → stored_in g < 2 ^ 64 → only_at g root p < 2 ^ 64
fits g root p is few = omega (arith, unique_fits g is.roots is.store root p is.listed, sums_same g)

-- links tell what is unique
told : (g : Nodes) (root : ℕ) (p : Names) (bytes : ℕ) → bytes ≡ only_at g root p → AreUnique g root p bytes
told g root p bytes is = λ v before after labels lengths st. is ∙ sym (unique_is v g before after root labels lengths st p)

told_ok : {E : Type 0} (g : Nodes) (root : ℕ) (p : Names) (r : Result ℕ E) (n : ℕ) → n ≡ only_at g root p → IfOk r (λ bytes. bytes ≡ n) → IfOk r (AreUnique g root p)
told_ok g root p (Ok bytes) n at is = told g root p bytes (is ∙ at)
told_ok g root p (Err e) n at is = tt

pub only-requires : goal.only-requires
only-requires c = let h : only_of c.args.graph.now c.in-Some.node ≡ only_at c.args.graph.now c.args.root c.args.path.now = sym (ap (λ o. only_from o (only_of c.args.graph.now)) c.in-Some.is) ∙ c.way.ensures in
    omega (arith, h, fits c.args.graph.now c.args.root c.args.path.now c.requires.snapshot c.requires.few)

pub returns-in-Some-clause-unique : goal.returns-in-Some-clause-unique
returns-in-Some-clause-unique c =
    let h : only_of c.args.graph.now c.in-Some.node ≡ only_at c.args.graph.now c.args.root c.args.path.now = sym (ap (λ o. only_from o (only_of c.args.graph.now)) c.in-Some.is) ∙ c.way.ensures in
    told_ok c.args.graph.now c.args.root c.args.path.now c.only.result (only_of c.args.graph.now c.in-Some.node) h c.only.ensures

pub returns-in-None-clause-unique : goal.returns-in-None-clause-unique
returns-in-None-clause-unique c = told c.args.graph.now c.args.root c.args.path.now 0 (sym (ap (λ o. only_from o (only_of c.args.graph.now)) c.in-None.is) ∙ c.way.ensures)
