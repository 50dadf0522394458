use Rattle.std.proofs.Common.{◌≡◌, ◌+◌, ◌∙◌, ℕ, [], length, get_or, subst, arith}
use Rattle.tm_blockmap.specs.Counts.{times}
use Rattle.tm_image.specs.Claim.{IsRefused}
use Rattle.tm_image.specs.Load.{IsClaimedAgain, claims}
use Rattle.tm_image.proofs.Owning.{counted}
use Rattle.tm_image.proofs.Loading.{kept_marks, within_each, sound_loaded, again_in_table, again_in_data, owned_loaded, distinct_claims}
use Rattle.tm_image.proofs.load.build.Goals as goal

pub returns-in-Some-clause-block : goal.returns-in-Some-clause-block
returns-in-Some-clause-block c = λ place is.
    let same : c.in-Some.block ≡ place = cc in
    let new = kept_marks c.args.blocks c.in_ok-map.map (omega (arith, c.requires.root.first_least, c.requires.root.first_most)) c.in_ok-map.ensures.size c.in_ok-map.ensures.are_marks c.in_ok-map.ensures.free in
    subst (IsClaimedAgain (claims c.args.table.items c.args.records.entries)) same (again_in_table c.args.blocks c.args.side c.args.gate.root c.args.gate.named c.args.table.items c.args.records.entries c.requires.small c.requires.root c.requires.listed c.requires.many c.requires.are c.in_ok-map.map c.in-Some.block new
    (subst (λ ts. IsRefused ts c.in_ok-map.map c.in-Some.block) c.deref.ensures.value c.in-Some.ensures.some))

pub claim_records-requires-clause-within : goal.claim_records-requires-clause-within
claim_records-requires-clause-within c = within_each c.args.blocks _ c.args.records.entries (length c.claim_list.new.map) (c.claim_list.ensures.size ∙ c.in_ok-map.ensures.size) c.requires.are

pub returns-in-Some-claim_records-clause-block : goal.returns-in-Some-claim_records-clause-block
returns-in-Some-claim_records-clause-block c = λ place is.
    let same : c.in-Some-claim_records.block ≡ place = cc in
    let new = kept_marks c.args.blocks c.in_ok-map.map (omega (arith, c.requires.root.first_least, c.requires.root.first_most)) c.in_ok-map.ensures.size c.in_ok-map.ensures.are_marks c.in_ok-map.ensures.free in
    let chain : (b : ℕ) → get_or c.claim_list.new.map b 0 ≡ get_or c.in_ok-map.map b 0 + times b c.args.table.items = subst (λ ts. (b : ℕ) → get_or c.claim_list.new.map b 0 ≡ get_or c.in_ok-map.map b 0 + times b ts) c.deref.ensures.value c.in_default.ensures.none in
    subst (IsClaimedAgain (claims c.args.table.items c.args.records.entries)) same (again_in_data c.args.blocks c.args.side c.args.gate.root c.args.gate.named c.args.table.items c.args.records.entries c.requires.small c.requires.root c.requires.listed c.requires.many c.requires.are c.claim_list.new.map c.in-Some-claim_records.block (λ b. omega (arith, new b, chain b)) c.in-Some-claim_records.ensures.some)

pub returns-then-free-len-clause-room : goal.returns-then-free-len-clause-room
returns-then-free-len-clause-room c = λ place is.
    let same : c.free-free.result ≡ place = cc in
    let new = kept_marks c.args.blocks c.in_ok-map.map (omega (arith, c.requires.root.first_least, c.requires.root.first_most)) c.in_ok-map.ensures.size c.in_ok-map.ensures.are_marks c.in_ok-map.ensures.free in
    let chain : (b : ℕ) → get_or c.claim_list.new.map b 0 ≡ get_or c.in_ok-map.map b 0 + times b c.args.table.items = subst (λ ts. (b : ℕ) → get_or c.claim_list.new.map b 0 ≡ get_or c.in_ok-map.map b 0 + times b ts) c.deref.ensures.value c.in_default.ensures.none in
    let owned = owned_loaded c.args.blocks c.args.side c.args.gate.root c.args.gate.named c.args.table.items c.args.records.entries c.requires.small c.requires.root c.requires.listed c.requires.many c.requires.are c.in_ok-map.map c.claim_list.new.map c.claim_records.new.map new chain c.in_default-claim_records.ensures.none in
    let all = counted c.claim_records.new.map c.args.table.items [] c.args.records.entries (λ b. omega (arith, owned b)) in
    (distinct_claims c.args.table.items c.args.records.entries c.claim_records.new.map owned c.claim_records.ensures.marks, omega (arith, all, same, c.free-free.ensures, c.claim_records.ensures.size, c.claim_list.ensures.size, c.in_ok-map.ensures.size), omega (arith, same, c.if-free-len.true, c.len.ensures, c.args.table.ok))

pub invariant_of-result : goal.invariant_of-result
invariant_of-result c =
    let new = kept_marks c.args.blocks c.in_ok-map.map (omega (arith, c.requires.root.first_least, c.requires.root.first_most)) c.in_ok-map.ensures.size c.in_ok-map.ensures.are_marks c.in_ok-map.ensures.free in
    let chain : (b : ℕ) → get_or c.claim_list.new.map b 0 ≡ get_or c.in_ok-map.map b 0 + times b c.args.table.items = subst (λ ts. (b : ℕ) → get_or c.claim_list.new.map b 0 ≡ get_or c.in_ok-map.map b 0 + times b ts) c.deref.ensures.value c.in_default.ensures.none in
    let owned = owned_loaded c.args.blocks c.args.side c.args.gate.root c.args.gate.named c.args.table.items c.args.records.entries c.requires.small c.requires.root c.requires.listed c.requires.many c.requires.are c.in_ok-map.map c.claim_list.new.map c.claim_records.new.map new chain c.in_default-claim_records.ensures.none in
    sound_loaded c.args.blocks c.args.side c.args.gate.root c.args.gate.named c.args.table.items c.args.records.entries c.requires.small c.requires.root c.requires.listed c.requires.many c.requires.are c.claim_records.new.map c.args.gate.in_range.0 c.args.gate.in_range.1 (omega (arith, c.claim_records.ensures.size, c.claim_list.ensures.size, c.in_ok-map.ensures.size)) c.claim_records.ensures.marks owned

pub returns-clause-sound : goal.returns-clause-sound
returns-clause-sound c =
    let new = kept_marks c.args.blocks c.in_ok-map.map (omega (arith, c.requires.root.first_least, c.requires.root.first_most)) c.in_ok-map.ensures.size c.in_ok-map.ensures.are_marks c.in_ok-map.ensures.free in
    let chain : (b : ℕ) → get_or c.claim_list.new.map b 0 ≡ get_or c.in_ok-map.map b 0 + times b c.args.table.items = subst (λ ts. (b : ℕ) → get_or c.claim_list.new.map b 0 ≡ get_or c.in_ok-map.map b 0 + times b ts) c.deref.ensures.value c.in_default.ensures.none in
    let owned = owned_loaded c.args.blocks c.args.side c.args.gate.root c.args.gate.named c.args.table.items c.args.records.entries c.requires.small c.requires.root c.requires.listed c.requires.many c.requires.are c.in_ok-map.map c.claim_list.new.map c.claim_records.new.map new chain c.in_default-claim_records.ensures.none in
    sound_loaded c.args.blocks c.args.side c.args.gate.root c.args.gate.named c.args.table.items c.args.records.entries c.requires.small c.requires.root c.requires.listed c.requires.many c.requires.are c.claim_records.new.map c.args.gate.in_range.0 c.args.gate.in_range.1 (omega (arith, c.claim_records.ensures.size, c.claim_list.ensures.size, c.in_ok-map.ensures.size)) c.claim_records.ensures.marks owned

pub returns-clause-unstaged : goal.returns-clause-unstaged
returns-clause-unstaged c = λ b.
    let new = kept_marks c.args.blocks c.in_ok-map.map (omega (arith, c.requires.root.first_least, c.requires.root.first_most)) c.in_ok-map.ensures.size c.in_ok-map.ensures.are_marks c.in_ok-map.ensures.free in
    let chain : (b : ℕ) → get_or c.claim_list.new.map b 0 ≡ get_or c.in_ok-map.map b 0 + times b c.args.table.items = subst (λ ts. (b : ℕ) → get_or c.claim_list.new.map b 0 ≡ get_or c.in_ok-map.map b 0 + times b ts) c.deref.ensures.value c.in_default.ensures.none in
    let owned = owned_loaded c.args.blocks c.args.side c.args.gate.root c.args.gate.named c.args.table.items c.args.records.entries c.requires.small c.requires.root c.requires.listed c.requires.many c.requires.are c.in_ok-map.map c.claim_list.new.map c.claim_records.new.map new chain c.in_default-claim_records.ensures.none in
    omega (arith, owned b)
