-- How many blocks are owned, by how often each is.
use Rattle.std.proofs.Common.{◌≡◌, ◌≢◌, ⊎_elim, ℕ, ◌+◌, ◌<◌, ◌≤◌, List, [], ◌∷◌, ◌++◌, length, get_or, refl, sym, ◌∙◌, ap, arith, length-append}
use Rattle.std.specs.List.{sum, sum_by, flat_map}
use Rattle.std.specs.Map.{values_of}
use Rattle.std.proofs.lemmas.Bool.{cases_eq, cond-true, cond-false, lt-ltb, le-ltb}
use Rattle.std.proofs.lemmas.List.Sums.{sum_by-cons}
use Rattle.std.proofs.lemmas.List.Concat.{flat_map-cons}
use Rattle.tm_blockmap.specs.Counts.{times}
use Rattle.tm_blockmap.proofs.Counting.{one_same, one_other, times-append, length-sum, length-le-sum}
use Rattle.tm_records.specs.declared.record.Record.{Record}
use Rattle.tm_records.specs.declared.record.Put.{Put}
use Rattle.tm_records.specs.declared.log.Undo.{Undo}
use Rattle.tm_records.specs.Records.{Records, weigh}
use Rattle.tm_records.specs.Puts.{brought}
use Rattle.tm_records.specs.Undo.{let_go}
use Rattle.tm_image.specs.Content.{in_data}
use Rattle.tm_image.specs.Reads.{kept, data_len}
use Rattle.tm_image.specs.Room.{brought_len}
use Rattle.tm_image.specs.Commit.{released, released_len}

-- the first three blocks
pub three : List ℕ
three = 0 ∷ 1 ∷ 2 ∷ []

pub kept_low : (b : ℕ) → b < 3 → kept b ≡ 1
kept_low b lt = cond-true _ 1 0 (lt-ltb b 3 lt)

pub kept_high : (b : ℕ) → 3 ≤ b → kept b ≡ 0
kept_high b le = cond-false _ 1 0 (le-ltb b 3 le)

pub length-three : length three ≡ 3
unfolding three
length-three = refl

pub times-three : (b : ℕ) → times b three ≡ kept b
unfolding three
times-three b = ⊎_elim
    (λ (e : 0 ≡ b). omega (arith, one_same 0 b e, one_other 1 b (λ f. absurd (omega arith)), one_other 2 b (λ f. absurd (omega arith)), kept_low b (omega arith)))
    (λ (no0 : 0 ≢ b). ⊎_elim
    (λ (e : 1 ≡ b). omega (arith, one_same 1 b e, one_other 0 b no0, one_other 2 b (λ f. absurd (omega arith)), kept_low b (omega arith)))
    (λ (no1 : 1 ≢ b). ⊎_elim
    (λ (e : 2 ≡ b). omega (arith, one_same 2 b e, one_other 0 b no0, one_other 1 b no1, kept_low b (omega arith)))
    (λ (no2 : 2 ≢ b). omega (arith, one_other 0 b no0, one_other 1 b no1, one_other 2 b no2, kept_high b (omega arith)))
    (cases_eq 2 b))
    (cases_eq 1 b))
    (cases_eq 0 b)

-- the blocks of the data, in one list
unfoldable pub data_list : Records → List ℕ
data_list es = flat_map (λ (r : Record). r.blocks) (values_of es)

pub times-data : (b : ℕ) (es : Records) → times b (data_list es) ≡ in_data b es
unfolding data_list
times-data b [] = refl
times-data b (e ∷ es) = ap (times b) (flat_map-cons (λ (r : Record). r.blocks) e.1 (values_of es)) ∙ times-append b e.1.blocks (flat_map (λ (r : Record). r.blocks) (values_of es))
    ∙ ap (λ n. times b e.1.blocks + n) (times-data b es) ∙ sym (sum_by-cons (λ (r : Record). times b r.blocks) e.1 (values_of es))

pub length-data : (es : Records) → length (data_list es) ≡ data_len es
unfolding data_list
length-data [] = refl
length-data (e ∷ es) = omega (arith, ap length (flat_map-cons (λ (r : Record). r.blocks) e.1 (values_of es)), length-append e.1.blocks (flat_map (λ (r : Record). r.blocks) (values_of es)), length-data es, sum_by-cons (λ (r : Record). length r.blocks) e.1 (values_of es))

-- all that was let go, in one list
pub gone : List Undo → List ℕ
gone log = flat_map let_go log

pub times-gone : (b : ℕ) (log : List Undo) → times b (gone log) ≡ released b log
unfolding gone
times-gone b [] = refl
times-gone b (u ∷ us) = ap (times b) (flat_map-cons let_go u us) ∙ times-append b (let_go u) (flat_map let_go us) ∙ ap (λ n. times b (let_go u) + n) (times-gone b us) ∙ sym (sum_by-cons (λ (v : Undo). times b (let_go v)) u us)

pub length-gone : (log : List Undo) → length (gone log) ≡ released_len log
unfolding gone
length-gone [] = refl
length-gone (u ∷ us) = omega (arith, ap length (flat_map-cons let_go u us), length-append (let_go u) (flat_map let_go us), length-gone us, sum_by-cons (λ (v : Undo). length (let_go v)) u us)

-- owned blocks are no more than the marks
pub bounded : (marks layout blocks : List ℕ) (es : Records) (log : List Undo) → ((b : ℕ) → kept b + times b layout + in_data b es + times b blocks + released b log ≤ get_or marks b 0)
    → 3 + length layout + data_len es + length blocks + released_len log ≤ sum marks
bounded marks layout blocks es log h =
    let all : List ℕ = three ++ (layout ++ (data_list es ++ (blocks ++ gone log))) in
    omega (
      arith,
      length-le-sum all marks (λ b. omega (
        arith,
        h b,
        times-append b three (layout ++ (data_list es ++ (blocks ++ gone log))),
        times-append b layout (data_list es ++ (blocks ++ gone log)),
        times-append b (data_list es) (blocks ++ gone log),
        times-append b blocks (gone log),
        times-three b,
        times-data b es,
        times-gone b log,
      )),
      length-append three (layout ++ (data_list es ++ (blocks ++ gone log))),
      length-append layout (data_list es ++ (blocks ++ gone log)),
      length-append (data_list es) (blocks ++ gone log),
      length-append blocks (gone log),
      length-three,
      length-data es,
      length-gone log,
    )

-- blocks that are owned as often as they are marked are as many as the marks
pub counted : (marks layout blobs : List ℕ) (es : Records) → ((b : ℕ) → kept b + times b layout + in_data b es + times b blobs ≡ get_or marks b 0) → 3 + length layout + data_len es + length blobs ≡ sum marks
counted marks layout blobs es h =
    let all : List ℕ = three ++ (layout ++ (data_list es ++ blobs)) in
    omega (
      arith,
      length-sum all marks (λ b. omega (
        arith,
        h b,
        times-append b three (layout ++ (data_list es ++ blobs)),
        times-append b layout (data_list es ++ blobs),
        times-append b (data_list es) blobs,
        times-three b,
        times-data b es,
      )),
      length-append three (layout ++ (data_list es ++ blobs)),
      length-append layout (data_list es ++ blobs),
      length-append (data_list es) blobs,
      length-three,
      length-data es,
    )

-- by the weight 1 blocks are counted
ones : (xs : List ℕ) → sum_by (λ (y : ℕ). 1) xs ≡ length xs
ones [] = refl
ones (x ∷ xs) = omega (arith, sum_by-cons (λ (y : ℕ). 1) x xs, ones xs)

pub weigh-ones : (es : Records) → weigh (λ y. 1) es ≡ data_len es
weigh-ones [] = refl
weigh-ones (e ∷ es) = omega (arith, sum_by-cons (λ (r : Record). sum_by (λ (y : ℕ). 1) r.blocks) e.1 (values_of es), sum_by-cons (λ (r : Record). length r.blocks) e.1 (values_of es), ones e.1.blocks, weigh-ones es)

pub log-ones : (us : List Undo) → sum_by (λ u. sum_by (λ (y : ℕ). 1) (let_go u)) us ≡ released_len us
log-ones [] = refl
log-ones (u ∷ us) = omega (arith, sum_by-cons (λ (v : Undo). sum_by (λ (y : ℕ). 1) (let_go v)) u us, sum_by-cons (λ (v : Undo). length (let_go v)) u us, ones (let_go u), log-ones us)

pub puts-ones : (ps : List Put) → sum_by (λ p. sum_by (λ (y : ℕ). 1) (brought p.body)) ps ≡ brought_len ps
puts-ones [] = refl
puts-ones (p ∷ ps) = omega (arith, sum_by-cons (λ (q : Put). sum_by (λ (y : ℕ). 1) (brought q.body)) p ps, sum_by-cons (λ (q : Put). length (brought q.body)) p ps, ones (brought p.body), puts-ones ps)
