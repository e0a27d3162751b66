-- Parts of two lists that are equal, place by place.
use Rattle.std.proofs.Common.{◌≡◌, ℕ, ◌+◌, ◌<◌, ◌≤◌, List, reverse, length, get_or, take, drop, sym, ap, ◌∙◌, arith, length-drop, length-take-le, get_or-drop, get_or-take, ext_get_or}
use Rattle.std.proofs.lemmas.List.{reverse-reverse}

module _ {A : Type 0} (d : A) where
  -- the first n
  pub front_same : (n : ℕ) (xs ys : List A) → n ≤ length xs → n ≤ length ys → ((k : ℕ) → k < n → get_or xs k d ≡ get_or ys k d) → take n xs ≡ take n ys
  front_same n xs ys hx hy same =
      ext_get_or d (take n xs) (take n ys) (length-take-le n xs hx ∙ sym (length-take-le n ys hy))
      (λ i h. let lt : i < n = omega (arith, length-take-le n xs hx) in get_or-take n xs i d lt ∙ same i lt ∙ sym (get_or-take n ys i d lt))

  pub front_reads : (n : ℕ) (xs ys : List A) → take n xs ≡ take n ys → (k : ℕ) → k < n → get_or xs k d ≡ get_or ys k d
  front_reads n xs ys e k h = sym (get_or-take n xs k d h) ∙ ap (λ z. get_or z k d) e ∙ get_or-take n ys k d h

  -- n from place a on
  pub window_same : (a n : ℕ) (xs ys : List A) → a + n ≤ length xs → a + n ≤ length ys → ((k : ℕ) → a ≤ k → k < a + n → get_or xs k d ≡ get_or ys k d) → take n (drop a xs) ≡ take n (drop a ys)
  window_same a n xs ys hx hy same =
      front_same n (drop a xs) (drop a ys) (simp length-drop (omega arith)) (simp length-drop (omega arith))
      (λ k h. get_or-drop a xs k d ∙ same (a + k) (omega arith) (omega arith) ∙ sym (get_or-drop a ys k d))

  pub window_reads : (a n : ℕ) (xs ys : List A) → take n (drop a xs) ≡ take n (drop a ys) → (k : ℕ) → k < n → get_or xs (a + k) d ≡ get_or ys (a + k) d
  window_reads a n xs ys e k h = sym (get_or-drop a xs k d) ∙ front_reads n (drop a xs) (drop a ys) e k h ∙ get_or-drop a ys k d

pub reverse_same : {A : Type 0} (xs ys : List A) → reverse xs ≡ reverse ys → xs ≡ ys
reverse_same xs ys e = sym (reverse-reverse xs) ∙ ap reverse e ∙ reverse-reverse ys
