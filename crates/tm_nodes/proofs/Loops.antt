-- Reading values one after the other, as a loop does.
use Rattle.std.proofs.Common.{◌≡◌, ℕ, zero, suc, ◌-◌, ◌+◌, ◌<◌, ◌≤◌, Bool, true, false, eqb, List, [], ◌∷◌, ◌++◌, length, Option, Some, None, refl, sym, ◌∙◌, ap, subst, arith, append_assoc}
use Rattle.std.specs.Prelude.{slice_get}
use Rattle.std.proofs.lemmas.List.{append-nil, length-append, nil_from_length}
use Rattle.std.proofs.lemmas.Bool.{eqb-true, eqb-false}
use Rattle.std.proofs.lemmas.Option.{slice_get-get_or}
use Rattle.std.proofs.lemmas.List.{get_or_push}
use Rattle.tm_nodes.specs.declared.error.ReadError.{ReadError}
use Rattle.tm_nodes.specs.declared.error.ReadError.TheVariants.{Broken, Memory}
use Rattle.tm_nodes.specs.Readers.{Reader, go_on, and_then, done, many, to_end, Fails}
use Rattle.tm_nodes.specs.Reading.{last_of}

-- what a test for no bytes says
pub some_left : (r : Bool) (bytes : List ℕ) → r ≡ eqb (length bytes) 0 → r ≡ false → 1 ≤ length bytes
some_left r bytes is no_more = let some = eqb-false (length bytes) 0 (sym is ∙ no_more) in omega (arith, some)

pub none_left : (r : Bool) (bytes : List ℕ) → r ≡ eqb (length bytes) 0 → r ≡ true → length bytes ≡ 0
none_left r bytes is over = eqb-true (length bytes) 0 (sym is ∙ over)

pub last_of-push : {A : Type 0} (xs : List A) (x : A) → last_of (xs ++ x ∷ []) ≡ Some x
last_of-push xs x =
    let len : length (xs ++ x ∷ []) ≡ length xs + 1 = length-append xs (x ∷ []) in
    let at : length (xs ++ x ∷ []) - 1 ≡ length xs = omega arith in
    ap (slice_get (xs ++ x ∷ [])) at ∙ slice_get-get_or (xs ++ x ∷ []) (length xs) x (omega arith) ∙ ap (λ y. Some y) (get_or_push xs x x (length xs) refl)

-- what was read before, and what is still read
unfoldable pub with_front : {A : Type 0} → List A → Option (List A × List ℕ) → Option (List A × List ℕ)
with_front front None = None
with_front front (Some x) = Some (front ++ x.0, x.1)

module _ {A : Type 0} (read : Option A → Reader A) where
  one_more : (front : List A) (a : A) (o : Option (List A × List ℕ)) → with_front front (go_on o (λ others. done (a ∷ others))) ≡ with_front (front ++ a ∷ []) o
  unfolding with_front done
  one_more front a None = refl
  one_more front a (Some x) = ap (λ xs. Some (xs, x.1)) (sym (append_assoc front (a ∷ []) x.0))

  next_is : (before : Option A) (bytes : List ℕ) (rest : A → Reader (List A)) (a : A) (after : List ℕ) → read before bytes ≡ Some (a, after) → and_then (read before) rest bytes ≡ rest a after
  unfolding and_then
  next_is before bytes rest a after is = ap (λ o. go_on o rest) is

  next_none : (before : Option A) (bytes : List ℕ) (rest : A → Reader (List A)) → read before bytes ≡ None → and_then (read before) rest bytes ≡ None
  unfolding and_then
  next_none before bytes rest is = ap (λ o. go_on o rest) is

  -- one value more, of so many
  many_goes_on : (front : List A) (n : ℕ) (bytes : List ℕ) (a : A) (after : List ℕ) → read (last_of front) bytes ≡ Some (a, after)
      → with_front front (many read (suc n) (last_of front) bytes) ≡ with_front (front ++ a ∷ []) (many read n (last_of (front ++ a ∷ [])) after)
  unfolding many and_then
  many_goes_on front n bytes a after is =
      ap (with_front front) (next_is (last_of front) bytes (λ first. and_then (many read n (Some first)) (λ others. done (first ∷ others))) a after is)
      ∙ one_more front a (many read n (Some a) after)
      ∙ ap (λ before. with_front (front ++ a ∷ []) (many read n before after)) (sym (last_of-push front a))

  many_stops : (front : List A) (n : ℕ) (bytes : List ℕ) → read (last_of front) bytes ≡ None → with_front front (many read (suc n) (last_of front) bytes) ≡ None
  unfolding many with_front
  many_stops front n bytes is = ap (with_front front) (next_none (last_of front) bytes (λ first. and_then (many read n (Some first)) (λ others. done (first ∷ others))) is)

  -- as an invariant: i of `count` values are read
  pub record IsRead (count i : ℕ) (front : List A) (bytes : List ℕ) (total : Option (List A × List ℕ)) : Type 0 where
    pub so_far : with_front front (many read (count - i) (last_of front) bytes) ≡ total

  pub starts : (count : ℕ) (bytes : List ℕ) → IsRead count 0 [] bytes (many read count None bytes)
  unfolding with_front
  starts count bytes =
      let all : count - 0 ≡ count = omega arith in
      record { so_far = ap (λ n. with_front [] (many read n None bytes)) all ∙ plain (many read count None bytes) }
    where
      plain : (o : Option (List A × List ℕ)) → with_front [] o ≡ o
      plain None = refl
      plain (Some x) = refl

  pub goes_on : (count i : ℕ) (front : List A) (bytes : List ℕ) (a : A) (after : List ℕ) (total : Option (List A × List ℕ)) → i < count → read (last_of front) bytes ≡ Some (a, after)
      → IsRead count i front bytes total → IsRead count (i + 1) (front ++ a ∷ []) after total
  goes_on count i front bytes a after total lt is r =
      let k : count - i ≡ suc (count - (i + 1)) = omega arith in
      record { so_far = sym (ap (λ n. with_front front (many read n (last_of front) bytes)) k ∙ many_goes_on front (count - (i + 1)) bytes a after is) ∙ r.so_far }

  pub fails : (error : ReadError) (count i : ℕ) (front : List A) (bytes : List ℕ) (total : Option (List A × List ℕ)) → i < count → Fails error (read (last_of front) bytes)
      → IsRead count i front bytes total → Fails error total
  fails Broken count i front bytes total lt is r =
      let k : count - i ≡ suc (count - (i + 1)) = omega arith in
      sym r.so_far ∙ ap (λ n. with_front front (many read n (last_of front) bytes)) k ∙ many_stops front (count - (i + 1)) bytes is
  fails Memory count i front bytes total lt is r = tt

  pub ends : (count i : ℕ) (front : List A) (bytes : List ℕ) (total : Option (List A × List ℕ)) → count ≤ i → IsRead count i front bytes total → total ≡ Some (front, bytes)
  unfolding many with_front done
  ends count i front bytes total le r =
      let k : count - i ≡ 0 = omega arith in
      sym r.so_far ∙ ap (λ n. with_front front (many read n (last_of front) bytes)) k ∙ ap (λ xs. Some (xs, bytes)) (append-nil front)

  -- up to the end of the bytes, with room for so many values more
  pub record IsReadOn (room : ℕ) (front : List A) (bytes : List ℕ) (total : Option (List A × List ℕ)) : Type 0 where
    pub so_far : with_front front (to_end read room (last_of front) bytes) ≡ total

  to_end_more : (room : ℕ) (before : Option A) (bytes : List ℕ) → 1 ≤ length bytes
      → to_end read (suc room) before bytes ≡ and_then (read before) (λ first. and_then (to_end read room (Some first)) (λ others. done (first ∷ others))) bytes
  unfolding to_end
  to_end_more room before [] some = absurd (omega arith)
  to_end_more room before (b ∷ bytes) some = refl

  pub begins : (room : ℕ) (bytes : List ℕ) → IsReadOn room [] bytes (to_end read room None bytes)
  unfolding with_front
  begins room bytes = record { so_far = plain (to_end read room None bytes) }
    where
      plain : (o : Option (List A × List ℕ)) → with_front [] o ≡ o
      plain None = refl
      plain (Some x) = refl

  pub reads_on : (room : ℕ) (front : List A) (bytes : List ℕ) (a : A) (after : List ℕ) (total : Option (List A × List ℕ)) → 1 ≤ length bytes → read (last_of front) bytes ≡ Some (a, after)
      → IsReadOn (suc room) front bytes total → IsReadOn room (front ++ a ∷ []) after total
  unfolding and_then
  reads_on room front bytes a after total some is r = record {
    so_far = sym (
        ap (with_front front) (to_end_more room (last_of front) bytes some ∙ next_is (last_of front) bytes (λ first. and_then (to_end read room (Some first)) (λ others. done (first ∷ others))) a after is)
        ∙ one_more front a (to_end read room (Some a) after)
        ∙ ap (λ before. with_front (front ++ a ∷ []) (to_end read room before after)) (sym (last_of-push front a))) ∙ r.so_far;
  }

  pub fails_on : (error : ReadError) (room : ℕ) (front : List A) (bytes : List ℕ) (total : Option (List A × List ℕ)) → 1 ≤ length bytes → Fails error (read (last_of front) bytes)
      → IsReadOn (suc room) front bytes total → Fails error total
  unfolding with_front
  fails_on Broken room front bytes total some is r =
      sym r.so_far ∙ ap (with_front front) (to_end_more room (last_of front) bytes some ∙ next_none (last_of front) bytes (λ first. and_then (to_end read room (Some first)) (λ others. done (first ∷ others))) is)
  fails_on Memory room front bytes total some is r = tt

  no_room : (before : Option A) (bytes : List ℕ) → 1 ≤ length bytes → to_end read 0 before bytes ≡ None
  unfolding to_end
  no_room before [] some = absurd (omega arith)
  no_room before (b ∷ bytes) some = refl

  pub fills : (front : List A) (bytes : List ℕ) (total : Option (List A × List ℕ)) → 1 ≤ length bytes → IsReadOn 0 front bytes total → total ≡ None
  unfolding with_front
  fills front bytes total some r = sym r.so_far ∙ ap (with_front front) (no_room (last_of front) bytes some)

  at_end : (room : ℕ) (before : Option A) → to_end read room before [] ≡ Some ([], [])
  unfolding to_end
  at_end zero before = refl
  at_end (suc room) before = refl

  pub closes : (room : ℕ) (front : List A) (bytes : List ℕ) (total : Option (List A × List ℕ)) → length bytes ≡ 0 → IsReadOn room front bytes total → total ≡ Some (front, bytes)
  unfolding with_front
  closes room front bytes total none r =
      let empty : bytes ≡ [] = nil_from_length bytes none in
      sym r.so_far
      ∙ ap (λ b. with_front front (to_end read room (last_of front) b)) empty
      ∙ ap (with_front front) (at_end room (last_of front))
      ∙ ap (λ xs. Some (xs, [])) (append-nil front) ∙ ap (λ b. Some (front, b)) (sym empty)

  -- the same, with room for what is left of a limit
  pub limit_begins : (limit n : ℕ) (front : List A) (bytes : List ℕ) → n ≡ 0 → front ≡ [] → IsReadOn (limit - n) front bytes (to_end read limit None bytes)
  limit_begins limit n front bytes none empty =
      let all : limit ≡ limit - n = omega arith in
      subst (λ room. IsReadOn room front bytes (to_end read limit None bytes)) all (subst (λ xs. IsReadOn limit xs bytes (to_end read limit None bytes)) (sym empty) (begins limit bytes))

  pub limit_reads : (limit n m : ℕ) (front seen new : List A) (bytes : List ℕ) (a : A) (after : List ℕ) (total : Option (List A × List ℕ)) → n < limit → m ≡ n + 1 → seen ≡ front → new ≡ front ++ a ∷ [] → 1 ≤ length bytes
      → read (last_of seen) bytes ≡ Some (a, after) → IsReadOn (limit - n) front bytes total → IsReadOn (limit - m) new after total
  limit_reads limit n m front seen new bytes a after total lt more seen_is new_is some is r =
      let room : limit - n ≡ suc (limit - m) = omega arith in
      subst (λ xs. IsReadOn (limit - m) xs after total) (sym new_is)
      (reads_on (limit - m) front bytes a after total some (subst (λ xs. read (last_of xs) bytes ≡ Some (a, after)) seen_is is) (subst (λ k. IsReadOn k front bytes total) room r))

  pub limit_fails : (error : ReadError) (limit n : ℕ) (front seen : List A) (bytes : List ℕ) (total : Option (List A × List ℕ)) → n < limit → seen ≡ front → 1 ≤ length bytes
      → Fails error (read (last_of seen) bytes) → IsReadOn (limit - n) front bytes total → Fails error total
  limit_fails error limit n front seen bytes total lt seen_is some is r =
      let room : limit - n ≡ suc (limit - n - 1) = omega arith in
      fails_on error (limit - n - 1) front bytes total some (subst (λ xs. Fails error (read (last_of xs) bytes)) seen_is is) (subst (λ k. IsReadOn k front bytes total) room r)

  pub limit_fills : (limit n : ℕ) (front : List A) (bytes : List ℕ) (total : Option (List A × List ℕ)) → limit ≤ n → 1 ≤ length bytes → IsReadOn (limit - n) front bytes total → total ≡ None
  limit_fills limit n front bytes total full some r =
      let room : limit - n ≡ 0 = omega arith in
      fills front bytes total some (subst (λ k. IsReadOn k front bytes total) room r)
