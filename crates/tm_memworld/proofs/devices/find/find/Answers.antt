use Rattle.std.proofs.Common.{◌≡◌, [], false, Some, sym, ◌∙◌, ap, subst, below_more}
use Rattle.std.proofs.lemmas.List.{get_or_read}
use Rattle.std.proofs.lemmas.Slice.Eq.{bytes_eq-Decides}
use Rattle.std.specs.Str.{bytes_eq}
use Rattle.tm_world.specs.Outside.{is_place}
use Rattle.tm_memworld.specs.Site.{SiteView, blank}
use Rattle.tm_memworld.specs.Sites.{path_at}
use Rattle.tm_memworld.proofs.devices.find.find.Goals as goal

pub returns-then-eq-clause-path : goal.returns-then-eq-clause-path
returns-then-eq-clause-path c =
    ap (λ (s : SiteView). s.path) (sym (get_or_read c.args.sites.now c.loop-i.i c.index-sites-i.result c.loop-i-test.true c.index-sites-i.is (blank [] 0)))
    ∙ sym c.path.ensures
    ∙ (bytes_eq-Decides c.path.result.now c.args.path.now).0 (sym c.eq.ensures ∙ c.if-eq.true)

pub returns-then-eq-clause-first : goal.returns-then-eq-clause-first
returns-then-eq-clause-first c = record {
  within = c.loop-i-test.true;
  others = λ k lt. subst (λ p. is_place (Some (path_at c.args.sites.now k)) (Some p) ≡ false) (sym (returns-then-eq-clause-path c)) (c.loop-i.invariant k lt);
}

pub loop-i-preserved : goal.loop-i-preserved
loop-i-preserved c = below_more (λ k. is_place (Some (path_at c.args.sites.now k)) (Some c.args.path.now) ≡ false) c.loop-i.i c.loop-i.invariant
    (ap (λ p. bytes_eq p c.args.path.now)
    (ap (λ (s : SiteView). s.path) (sym (get_or_read c.args.sites.now c.loop-i.i c.index-sites-i.result c.loop-i-test.true c.index-sites-i.is (blank [] 0))) ∙ sym c.path.ensures)
    ∙ sym c.eq.ensures ∙ c.if-eq.false)
