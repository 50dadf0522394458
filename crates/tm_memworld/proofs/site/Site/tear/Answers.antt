use Rattle.std.proofs.Common.{◌≡◌, ◌∙◌, ℕ, List, None, cond, ltb, length, get_or, sym, ap, subst, rules}
use Rattle.std.proofs.lemmas.List.{with_items_is}
use Rattle.std.specs.Vec.{with_items}
use Rattle.tm_memworld.specs.Torn.{torn_disk}
use Rattle.tm_memworld.specs.Site.{SiteView, disk_in, disk_of, zero_block, IsBy}
use Rattle.tm_memworld.proofs.Sites.{disk_in-torn, torn-nothing}
use Rattle.tm_memworld.proofs.site.Site.tear.Goals as goal
use Rattle.tm_memworld.proofs.site.Site.tear.Goals.{then-is_some, else-is_some}

pub returns-clause-disk : goal.returns-clause-disk
returns-clause-disk c =
    let f = c.self.inside in
    let torn = c.args.torn.now in
    let by : IsBy c.args.time (record { path = f.path.items; count = f.count; blocks = f.blocks.items; times = f.times.items; settled = f.settled }) = subst (IsBy c.args.time) (sym c.self.view_is) c.requires in
    elim c.if-is_some.branch [
      | then-is_some w ↦
          let long : length w.tear_blocks.new.blocks ≡ length f.blocks.items = search rules in
          let same : (with_items f.blocks w.tear_blocks.new.blocks).items ≡ w.tear_blocks.new.blocks = with_items_is f.blocks w.tear_blocks.new.blocks (long ∙ sym f.blocks.ok.0) in
          let each : (b : ℕ) → get_or (with_items f.blocks w.tear_blocks.new.blocks).items b zero_block ≡ cond (ltb f.settled (get_or f.times.items b 0)) torn (get_or f.blocks.items b zero_block) =
          λ b. ap (λ (xs : List (List ℕ)). get_or xs b zero_block) same ∙ w.tear_blocks.ensures b
          ∙ (λ i. cond (ltb f.settled (get_or (w.deref.ensures.value i) b 0)) torn (get_or (w.deref_mut.ensures.value i) b zero_block)) in
          (λ i. disk_in (w.self-inside-is i).count (w.self-inside-is i).blocks.items (w.self-inside-is i).times.items c.args.time)
          ∙ disk_in-torn f.count f.blocks.items _ f.times.items f.settled c.args.time torn each by.written
          ∙ ap (λ (v : SiteView). torn_disk torn (disk_of v)) c.self.view_is
      | else-is_some w ↦
          let none : f.count ≡ None = search rules in
          (λ i. disk_in ((ap (λ g. g.count) w.self-inside-is ∙ none) i) (w.self-inside-is i).blocks.items (w.self-inside-is i).times.items c.args.time)
          ∙ torn-nothing torn f.blocks.items f.blocks.items f.times.items f.settled c.args.time
          ∙ (λ i. torn_disk torn (disk_in (sym none i) f.blocks.items f.times.items f.settled))
          ∙ ap (λ (v : SiteView). torn_disk torn (disk_of v)) c.self.view_is
    ]
