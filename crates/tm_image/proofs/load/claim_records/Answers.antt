use Rattle.std.proofs.Common.{◌≡◌, ◌<◌, ◌+◌, ◌∙◌, ◌∷◌, ◌++◌, ℕ, length, get_or, map, ap, sym, subst, rules}
use Rattle.std.specs.List.{All}
use Rattle.std.specs.Map.Iter.{deref_pair}
use Rattle.std.proofs.lemmas.Map.Iter.{iter_end, rest_so_far}
use Rattle.tm_records.specs.declared.record.Record.{Record}
use Rattle.tm_records.specs.Records.{Records}
use Rattle.tm_image.specs.Content.{in_data}
use Rattle.tm_image.specs.Claim.{IsRefused}
use Rattle.tm_image.proofs.Claiming.{refused_record, all_mid}
use Rattle.tm_image.proofs.load.claim_records.Goals as goal

pub claim_list-requires-clause-within : goal.claim_list-requires-clause-within
claim_list-requires-clause-within c =
    let all : c.args.records.now.entries ≡ map deref_pair c.loop-key.yielded ++ (c.in-Some._key.now, c.in-Some.record.now) ∷ c.next.new.self = search (rules, rest_so_far) in
    let here : All (λ b. b < length c.args.map.now) c.in-Some.record.now.blocks = all_mid (λ (e : ℕ × Record). All (λ b. b < length c.args.map.now) e.1.blocks) (map deref_pair c.loop-key.yielded) c.next.new.self c.args.records.now.entries (c.in-Some._key.now, c.in-Some.record.now) all c.requires.within in
    subst (λ bs. All (λ b. b < length c.loop-key.map) bs) (sym c.as_slice.ensures) (subst (λ n. All (λ b. b < n) c.in-Some.record.now.blocks) (sym c.loop-key.invariant.size) here)

pub returns-in-Some-claim_list-clause-some : goal.returns-in-Some-claim_list-clause-some
returns-in-Some-claim_list-clause-some c =
    let all : c.args.records.now.entries ≡ map deref_pair c.loop-key.yielded ++ (c.in-Some._key.now, c.in-Some.record.now) ∷ c.next.new.self = search (rules, rest_so_far) in
    refused_record (map deref_pair c.loop-key.yielded) c.next.new.self c.args.records.now.entries (c.in-Some._key.now, c.in-Some.record.now) c.args.map.now c.loop-key.map _ all c.loop-key.invariant.claimed
    (subst (λ bs. IsRefused bs c.loop-key.map c.in-Some-claim_list.block) c.as_slice.ensures c.in-Some-claim_list.ensures.some)

pub returns-clause-none : goal.returns-clause-none
returns-clause-none c =
    let e : map deref_pair c.loop-key.yielded ≡ c.args.records.now.entries = search (rules, iter_end) in
    λ b. c.loop-key.invariant.claimed b ∙ ap (λ (es : Records). get_or c.args.map.now b 0 + in_data b es) e
