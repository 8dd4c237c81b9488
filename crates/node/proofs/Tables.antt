-- Lists whose members are read off the first places of a table.
use Rattle.std.proofs.Common.{◌≡◌, ℕ, suc, ◌+◌, ◌-◌, ◌<◌, ◌≤◌, List, [], ◌∷◌, ◌++◌, map, length, get_or, take, drop, set, sym, ap, ◌∙◌, append_assoc, add-one, arith}
use borrow.Rule.Slice.PartMut.{put_mid, mid_of, post_of}
use Rattle.std.specs.List.{remove}
use Rattle.std.proofs.lemmas.List.{length-append, length-drop, length-take, take_more_set, take-set, take_at, take-take, take_more, drop-drop, length-map, take-map, drop-map, map-append}
use Rattle.std.proofs.lemmas.Slice.{between_is}

module _ {X Y : Type 0} (f : X → Y) where
  -- the next place is filled
  pub one_more : (xs : List X) (n : ℕ) (x : X) (y : Y) → n < length xs → f x ≡ y → map f (take (n + 1) (set xs n x)) ≡ map f (take n xs) ++ y ∷ []
  one_more xs n x y within is =
      ap (map f) (take_more_set xs n x within) ∙ map-append f (take n xs) (x ∷ []) ∙ ap (λ z. map f (take n xs) ++ z ∷ []) is

  -- the places behind one move up
  pub one_less : (xs part : List X) (n place : ℕ) (x : X) → place < n → n ≤ length xs
      → part ≡ drop 1 (mid_of place (n - place) xs) ++ take 1 (mid_of place (n - place) xs)
      → map f (take (n - 1) (set (put_mid place (n - place) xs part) (n - 1) x)) ≡ remove (map f (take n xs)) place
  one_less xs part n place x below within turned =
      let mid : List X = mid_of place (n - place) xs in
      let front : List X = take place xs in
      let behind : List X = take 1 mid ++ post_of place (n - place) xs in
      let long : length (front ++ drop 1 mid) ≡ n - 1 = simp (length-append, length-take, length-drop) (omega arith) in
      let moved : put_mid place (n - place) xs part ≡ (front ++ drop 1 mid) ++ behind = ap (put_mid place (n - place) xs) turned ∙ simp append_assoc in
      let left : take (n - 1) (set (put_mid place (n - place) xs part) (n - 1) x) ≡ front ++ drop 1 mid = take-set (put_mid place (n - place) xs part) (n - 1) x ∙ ap (take (n - 1)) moved ∙ take_at (front ++ drop 1 mid) behind (n - 1) long in
      let back : drop 1 mid ≡ drop (suc place) (take n xs) = ap (drop 1) (between_is xs place n) ∙ drop-drop 1 place (take n xs) ∙ ap (λ k. drop k (take n xs)) (add-one place) in
      let start : front ≡ take place (take n xs) = sym (take-take place n xs (omega arith)) in
      ap (map f) (left ∙ (λ i. start i ++ back i)) ∙ map-append f (take place (take n xs)) (drop (suc place) (take n xs))
      ∙ sym (λ i. take-map f place (take n xs) i ++ drop-map f (suc place) (take n xs) i)

  -- the next place is looked at
  pub one_past : (xs : List X) (i : ℕ) (d : X) → i < length xs → map f (take (i + 1) xs) ≡ map f (take i xs) ++ f (get_or xs i d) ∷ []
  one_past xs i d within = ap (map f) (take_more xs i d within) ∙ map-append f (take i xs) (get_or xs i d ∷ [])

  pub length_first : (xs : List X) (i : ℕ) → i ≤ length xs → length (map f (take i xs)) ≡ i
  length_first xs i within = length-map (take i xs) f ∙ simp length-take (omega arith)

  pub most_first : (xs : List X) (i : ℕ) → length (map f (take i xs)) ≤ i
  most_first xs i = rw length-map (simp length-take (omega arith))
