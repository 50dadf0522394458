use Rattle.std.proofs.Common.{◌≡◌, ◌∙◌, ap, sym, not, nat_lt}
use Rattle.std.specs.List.{find}
use Rattle.std.specs.Map.{keys_of}
use Rattle.tm_image.specs.Seen.{Seen}
use Rattle.tm_image.proofs.Finding.{first_from, none_from, from_on}
use Rattle.tm_image.proofs.image.Image.key_from.Goals as goal

pub returns-in-Some : goal.returns-in-Some
returns-in-Some c =
    let between : c.range.result ≡ from_on c.args.least c.self.inside.records.entries = c.range.ensures.between tt in
    first_from c.args.least c.self.inside.records.entries c.next.new.self (c.in-Some.key.now, c.in-Some.field-0-1.now) (sym c.in-Some.ensures.steps ∙ between)
    ∙ ap (λ (s : Seen). find (λ k. not (nat_lt k c.args.least)) (keys_of s.records)) c.self.view_is

pub returns-in-None : goal.returns-in-None
returns-in-None c =
    let between : c.range.result ≡ from_on c.args.least c.self.inside.records.entries = c.range.ensures.between tt in
    none_from c.args.least c.self.inside.records.entries (sym c.in-None.ensures.steps.0 ∙ between)
    ∙ ap (λ (s : Seen). find (λ k. not (nat_lt k c.args.least)) (keys_of s.records)) c.self.view_is
