use Rattle.std.proofs.Common.{◌≡◌, ◌≤◌, ◌+◌, ◌∙◌, ℕ, [], List, sym, ap, subst, arith}
use Rattle.tm_blockmap.specs.Counts.{times}
use Rattle.tm_image.specs.Room.{AreStaged, free_of}
use Rattle.tm_image.specs.Seen.{staged, content_of}
use Rattle.tm_store_records.specs.Held.{Held}
use Rattle.tm_store_records.proofs.Retagging.{unstaged}
use Rattle.tm_store.specs.contracts.store.Store.{the_view}
use Rattle.tm_store.proofs.store.Store.give_back_all.Goals as goal

pub unstage-requires : goal.unstage-requires
unstage-requires c =
    let h : Held = the_view c.self.inside in
    let are : AreStaged h.staged h.image = subst (λ (q : Held). AreStaged q.staged q.image) (sym c.self.view_is) c.requires in
    let blocks : c.of.result ≡ h.staged = c.of.ensures ∙ (λ i. (c.replace-blocks.ensures.value i).items) in
    record { staged = λ b. omega (arith, ap (λ (bs : List ℕ). times b bs) blocks, are b) }

pub returns-clause-unstaged : goal.returns-clause-unstaged
returns-clause-unstaged c =
    let h : Held = the_view c.self.inside in
    let are : AreStaged h.staged h.image = subst (λ (q : Held). AreStaged q.staged q.image) (sym c.self.view_is) c.requires in
    let blocks : c.of.result ≡ h.staged = c.of.ensures ∙ (λ i. (c.replace-blocks.ensures.value i).items) in
    unstaged h.image c.unstage.new.self h.staged are (subst (λ (bs : List ℕ). (b : ℕ) → staged b c.unstage.new.self + times b bs ≡ staged b h.image) blocks c.unstage.ensures.staged)

pub returns-clause-content : goal.returns-clause-content
returns-clause-content c =
    let h : Held = the_view c.self.inside in
    let same = c.unstage.ensures.same in
    let content : content_of c.unstage.new.self ≡ content_of h.image = (λ i. record { blocks = same.size i; records = same.records i; layout = same.layout i; root = same.root i }) in
    content ∙ ap (λ (q : Held). content_of q.image) c.self.view_is

pub returns-clause-named : goal.returns-clause-named
returns-clause-named c = c.unstage.ensures.same.named ∙ ap (λ (q : Held). q.image.named) c.self.view_is

pub returns-clause-side : goal.returns-clause-side
returns-clause-side c = c.unstage.ensures.same.side ∙ ap (λ (q : Held). q.image.side) c.self.view_is

pub returns-clause-more : goal.returns-clause-more
returns-clause-more c = subst (λ (q : Held). free_of q.image ≤ free_of c.unstage.new.self) c.self.view_is (omega (arith, c.unstage.ensures.free))

pub returns-clause-staged : goal.returns-clause-staged
returns-clause-staged c = (λ i. (c.replace-blocks.ensures.after i).items) ∙ c.new-none.ensures.items

pub returns-clause-same : goal.returns-clause-same
returns-clause-same c =
    let h : Held = the_view c.self.inside in
    let none : c.replace-blocks.new.dest.items ≡ [] = (λ i. (c.replace-blocks.ensures.after i).items) ∙ c.new-none.ensures.items in
    (λ i. record h { image = c.unstage.new.self; staged = none i }) ∙ ap (λ (q : Held). record q { image = c.unstage.new.self; staged = [] }) c.self.view_is
