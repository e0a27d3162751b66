-- How the definition comes to the end of each word that types.
use Rattle.std.proofs.Common.{◌≡◌, ℕ, ◌+◌, ◌-◌, ◌%◌, ◌<◌, ◌≤◌, Bool, true, false, ◌&&◌, leb, ◌⊎◌, List, [], ◌∷◌, ◌++◌, length, get_or, take, drop, replicate, sym, refl, ap, ◌∙◌, inl, inr, arith}
use Rattle.std.proofs.lemmas.Bool.Decides.{nat_tests}
use Rattle.fault.specs.declared.Reason.TheVariants.{StackUnderflow, OutOfReach, BadBase, BadToken}
use Rattle.store.specs.Meaning.{Meaning}
use Rattle.stacks.specs.Stack.{stack_of}
use Rattle.image.specs.Cells.{at, cell_at}
use Rattle.image.specs.Views.{low_of}
use Rattle.image.proofs.Laws.{cell_high, get_or_low, length_low}
use Rattle.numbers.specs.Text.{is_base, signed_text, unsigned_text}
use Rattle.definition.specs.declared.registers.Mark.{Mark}
use Rattle.definition.specs.declared.ranged.Registers.{Registers}
use Rattle.definition.specs.Machine.{Machine, ip, with_ip}
use Rattle.definition.specs.Asked.{Asked, refused, After, typing}
use Rattle.definition.specs.Kernel
use Rattle.definition.specs.Kernel.{TypingWord}
use Rattle.definition.specs.Flow.{in_dictionary, do_inline}
use Rattle.definition.proofs.Agreeing.{dp_bottom}
use Rattle.definition.specs.Words.{Argument, perform}
use Rattle.definition.specs.Stacks.{has_cells, nth, popped}
use Rattle.definition.specs.Space.{base, in_reach, do_typing}
use Rattle.definition.specs.View.{lent, view_of}
use Rattle.steps.specs.Seats.{with_pointer}
use Rattle.steps.specs.Does.{seen, acts}
use Rattle.steps.proofs.Exits.{has_cells_lem, lacks_cells}
use Rattle.space_words.specs.Numbers.{reachable}
use Rattle.space_words.proofs.Written.{reach_is}
use Rattle.steps.specs.Inside.{inside}
use Rattle.typing_words.specs.Numbers.{counted, number_text, number_word}
use Rattle.typing_words.proofs.Parts.{high_part, low_part}
use Rattle.typing_words.proofs.Ends.{Comes}

abbrev Acts : ℕ → TypingWord → Type 0
Acts n w = (again : ℕ → Machine → Asked After) (a : Argument) (m : Machine) → acts n again a m ≡ do_typing w m

dot_acts : Acts 49 Kernel.dot
unfolding perform
dot_acts again a m = refl

u_dot_acts : Acts 50 Kernel.u_dot
unfolding perform
u_dot_acts again a m = refl

emit_acts : Acts 51 Kernel.emit
unfolding perform
emit_acts again a m = refl

type_acts : Acts 52 Kernel.type
unfolding perform
type_acts again a m = refl

cr_acts : Acts 53 Kernel.cr
unfolding perform
cr_acts again a m = refl

spaces_acts : Acts 54 Kernel.spaces
unfolding perform
spaces_acts again a m = refl

-- a word that types a number by this text of it
pub record TypesNumber (v : ℕ) (text : ℕ → ℕ → List ℕ) : Type 0 where
  pub short : (again : ℕ → Machine → Asked After) (a : Argument) (m : Machine) → has_cells 1 m ≡ false → acts v again a m ≡ refused StackUnderflow m
  pub bad : (again : ℕ → Machine → Asked After) (a : Argument) (m : Machine) → has_cells 1 m ≡ true → is_base (base m) ≡ false → acts v again a m ≡ refused BadBase m
  pub typed : (again : ℕ → Machine → Asked After) (a : Argument) (m : Machine) → has_cells 1 m ≡ true → is_base (base m) ≡ true → acts v again a m ≡ typing (text (base m) (nth 0 m) ++ (32 ∷ [])) (popped 1 m)

dot_types : TypesNumber 49 signed_text
dot_types = record {
  short = λ again a m h. dot_acts again a m ∙ rw h;
  bad = λ again a m h k. dot_acts again a m ∙ rw (h, k);
  typed = λ again a m h k. dot_acts again a m ∙ rw (h, k);
}

u_dot_types : TypesNumber 50 unsigned_text
u_dot_types = record {
  short = λ again a m h. u_dot_acts again a m ∙ rw h;
  bad = λ again a m h k. u_dot_acts again a m ∙ rw (h, k);
  typed = λ again a m h k. u_dot_acts again a m ∙ rw (h, k);
}

pub number_types : (signed : Bool) → TypesNumber (number_word signed) (number_text signed)
number_types true = dot_types
number_types false = u_dot_types

type_typed : (m : Machine) → has_cells 2 m ≡ true → in_reach (nth 1 m) (counted (nth 0 m)) m ≡ true → do_typing Kernel.type m ≡ typing (take (counted (nth 0 m)) (drop (nth 1 m - 32768) m.high)) (popped 2 m)
type_typed m h k = rw (h, k)

type_far : (m : Machine) → has_cells 2 m ≡ true → in_reach (nth 1 m) (counted (nth 0 m)) m ≡ false → do_typing Kernel.type m ≡ refused OutOfReach m
type_far m h k = rw (h, k)

abbrev deep : Registers → ℕ
deep r = r.seat.depths.cells

abbrev top : Registers → List ℕ → ℕ → ℕ
top r c k = get_or (stack_of (deep r) c) k 0

module _ (r : Registers) (i c : List ℕ) (li : length i ≡ 65536) (lc : length c ≡ 128) where
  base_is : (t : List ℕ) (k : List Mark) (s : Meaning) → base (seen r i c t k s) ≡ cell_at i 32768
  base_is t k s = cell_high r.shared.ends.here i 32768 (omega arith) (omega (arith, r.space))

  pub number_short : (v : ℕ) (text : ℕ → ℕ → List ℕ) → TypesNumber v text → deep r < 1 → Comes v r i c (refused StackUnderflow)
  number_short v text z h = λ again a t k s. z.short again a (seen r i c t k s) (lacks_cells r i c t k s lc 1 h)

  pub number_bad : (v : ℕ) (text : ℕ → ℕ → List ℕ) → TypesNumber v text → 1 ≤ deep r → is_base (cell_at i 32768) ≡ false → Comes v r i c (refused BadBase)
  number_bad v text z h p = λ again a t k s. z.bad again a (seen r i c t k s) (has_cells_lem r i c t k s lc 1 h) (ap is_base (base_is t k s) ∙ p)

  pub number_typed : (v : ℕ) (text : ℕ → ℕ → List ℕ) (b x : ℕ) → TypesNumber v text → 1 ≤ deep r → b ≡ cell_at i 32768 → is_base b ≡ true → x ≡ top r c 0 → Comes v r i c (λ m. typing (text b x ++ (32 ∷ [])) (popped 1 m))
  number_typed v text b x z h p q y = λ again a t k s.
      let m = seen r i c t k s in
      let e : base m ≡ b = base_is t k s ∙ sym p in
      z.typed again a m (has_cells_lem r i c t k s lc 1 h) (ap is_base e ∙ q)
      ∙ ap (λ d. typing (text d (top r c 0) ++ (32 ∷ [])) (popped 1 m)) e
      ∙ ap (λ d. typing (text b d ++ (32 ∷ [])) (popped 1 m)) (sym y)

  pub emit_short : deep r < 1 → Comes 51 r i c (refused StackUnderflow)
  emit_short h = λ again a t k s. emit_acts again a (seen r i c t k s) ∙ rw (lacks_cells r i c t k s lc 1 h)

  pub emit_typed : (x b : ℕ) → 1 ≤ deep r → x ≡ top r c 0 → b ≡ x % 128 → Comes 51 r i c (λ m. typing (b ∷ []) (popped 1 m))
  emit_typed x b h p q = λ again a t k s.
      let m = seen r i c t k s in
      let e : top r c 0 % 128 ≡ b = ap (λ y. y % 128) (sym p) ∙ sym q in
      emit_acts again a m ∙ rw (has_cells_lem r i c t k s lc 1 h) (ap (λ y. typing (y ∷ []) (popped 1 m)) e)

  pub type_short : deep r < 2 → Comes 52 r i c (refused StackUnderflow)
  type_short h = λ again a t k s. type_acts again a (seen r i c t k s) ∙ rw (lacks_cells r i c t k s lc 2 h)

  pub type_unreached : (x n a : ℕ) → 2 ≤ deep r → x ≡ top r c 0 → n ≡ counted x → a ≡ top r c 1 → reachable a n r.shared.ends.here ≡ false → Comes 52 r i c (refused OutOfReach)
  type_unreached x n a h p q u f =
      let f' : reachable (top r c 1) (counted (top r c 0)) r.shared.ends.here ≡ false = rw (u, q, p) at f in
      λ again b t k s. type_acts again b (seen r i c t k s) ∙ type_far (seen r i c t k s) (has_cells_lem r i c t k s lc 2 h) (reach_is r i c t k s li (top r c 1) (counted (top r c 0)) false f')

  pub type_reached : (x n a : ℕ) → 2 ≤ deep r → x ≡ top r c 0 → n ≡ counted x → a ≡ top r c 1 → reachable a n r.shared.ends.here ≡ true → Comes 52 r i c (λ m. typing (take n (drop a i)) (popped 2 m))
  type_reached x n a h p q u f =
      let g : n ≡ counted (top r c 0) = q ∙ ap counted p in
      let f' : reachable (top r c 1) (counted (top r c 0)) r.shared.ends.here ≡ true = rw (u, q, p) at f in
      λ again b t k s.
      let m = seen r i c t k s in
      type_acts again b m ∙ type_typed m (has_cells_lem r i c t k s lc 2 h) (reach_is r i c t k s li (top r c 1) (counted (top r c 0)) true f')
      ∙ ap (λ (y : List ℕ). typing y (popped 2 m)) (high_part r.shared.ends.here (top r c 1) (counted (top r c 0)) i f' ∙ ap (λ y. take y (drop (top r c 1) i)) (sym g) ∙ ap (λ y. take n (drop y i)) (sym u))

  pub cr_typed : Comes 53 r i c (λ m. typing (13 ∷ 10 ∷ []) (popped 0 m))
  cr_typed = λ again a t k s. cr_acts again a (seen r i c t k s)

  pub spaces_short : deep r < 1 → Comes 54 r i c (refused StackUnderflow)
  spaces_short h = λ again a t k s. spaces_acts again a (seen r i c t k s) ∙ rw (lacks_cells r i c t k s lc 1 h)

  pub spaces_typed : (x n : ℕ) → 1 ≤ deep r → x ≡ top r c 0 → n ≡ counted x → Comes 54 r i c (λ m. typing (replicate n 32) (popped 1 m))
  spaces_typed x n h p q = λ again a t k s.
      let m = seen r i c t k s in
      let e : counted (top r c 0) ≡ n = ap counted (sym p) ∙ sym q in
      spaces_acts again a m ∙ rw (has_cells_lem r i c t k s lc 1 h) (ap (λ y. typing (replicate y 32) (popped 1 m)) e)

-- (.")
text_acts : (again : ℕ → Machine → Asked After) (a : Argument) (m : Machine) → acts 105 again a m ≡ do_inline Kernel.type_text m
unfolding perform
text_acts again a m = refl

text_none : (m : Machine) → in_dictionary (ip m) 1 m ≡ false → do_inline Kernel.type_text m ≡ refused BadToken m
text_none m h = rw h

text_cut : (m : Machine) → in_dictionary (ip m) 1 m ≡ true → in_dictionary (ip m) (at m.low (ip m) + 1) m ≡ false → do_inline Kernel.type_text m ≡ refused BadToken m
text_cut m h k = rw (h, k)

text_typed : (m : Machine) → in_dictionary (ip m) 1 m ≡ true → in_dictionary (ip m) (at m.low (ip m) + 1) m ≡ true → do_inline Kernel.type_text m ≡ typing (take (at m.low (ip m)) (drop (ip m + 1) m.low)) (with_ip (ip m + at m.low (ip m) + 1) m)
text_typed m h k = rw (h, k)

either : (b : Bool) → (b ≡ true) ⊎ (b ≡ false)
either true = inl refl
either false = inr refl

-- what is inside, with more behind it
inside_within : (a n d : ℕ) → inside a n d ≡ true → (256 ≤ a) × (a + n ≤ d)
inside_within a n d h = (grind (arith, nat_tests), grind (arith, nat_tests))

inside_is : (a n d : ℕ) → 256 ≤ a → a + n ≤ d → inside a n d ≡ true
inside_is a n d h k = grind (arith, nat_tests)

module _ (r : Registers) (i c : List ℕ) (li : length i ≡ 65536) where
  abbrev place : ℕ
  place = r.seat.flow.ip

  abbrev end : ℕ
  end = r.shared.ends.dp

  dictionary_is : (t : List ℕ) (k : List Mark) (s : Meaning) (n : ℕ) (b : Bool) → inside place n end ≡ b → in_dictionary place n (seen r i c t k s) ≡ b
  dictionary_is t k s n b p = ap (λ d. leb 256 place && leb (place + n) d) (length_low end i (dp_bottom r) (omega (arith, r.top))) ∙ p

  count_is : inside place 1 end ≡ true → at (low_of end i) place ≡ get_or i place 0
  count_is p =
      let h = inside_within place 1 end p in
      get_or_low end i place h.0 (omega (arith, h.1))

  pub text_bad : inside place (get_or i place 0 + 1) end ≡ false → Comes 105 r i c (refused BadToken)
  text_bad p = λ again a t k s. text_acts again a (seen r i c t k s) ∙ by t k s (either (inside place 1 end))
    where
      by : (t : List ℕ) (k : List Mark) (s : Meaning) → (inside place 1 end ≡ true) ⊎ (inside place 1 end ≡ false) → do_inline Kernel.type_text (seen r i c t k s) ≡ refused BadToken (seen r i c t k s)
      by t k s (inl h) = text_cut (seen r i c t k s) (dictionary_is t k s 1 true h) (dictionary_is t k s (at (low_of end i) place + 1) false (ap (λ y. inside place (y + 1) end) (count_is h) ∙ p))
      by t k s (inr h) = text_none (seen r i c t k s) (dictionary_is t k s 1 false h)

  pub text_fits : (n : ℕ) → n ≡ get_or i place 0 → inside place (n + 1) end ≡ true → Comes 105 r i c (λ m. typing (take n (drop (place + 1) i)) (with_ip (place + n + 1) m))
  text_fits n e p =
      let h = inside_within place (n + 1) end p in
      let q = inside_is place 1 end h.0 (omega (arith, h.1)) in
      let f : at (low_of end i) place ≡ n = count_is q ∙ sym e in
      let w : take n (drop (place + 1) (low_of end i)) ≡ take n (drop (place + 1) i) = low_part end (place + 1) n i (omega (arith, h.0)) (omega (arith, h.1)) in
      λ again a t k s.
      let m = seen r i c t k s in
      text_acts again a m
      ∙ text_typed m (dictionary_is t k s 1 true q) (dictionary_is t k s (at (low_of end i) place + 1) true (ap (λ y. inside place (y + 1) end) f ∙ p))
      ∙ ap (λ y. typing (take y (drop (place + 1) (low_of end i))) (with_ip (place + y + 1) m)) f
      ∙ ap (λ (y : List ℕ). typing y (with_ip (place + n + 1) m)) w

-- IP moved
pub pointer_view : (r r' : Registers) (i c : List ℕ) (a : ℕ) → r'.shared ≡ r.shared → r'.seat ≡ with_pointer a r.seat → (t : List ℕ) (k : List Mark) (s : Meaning) → seen r' i c t k s ≡ with_ip a (seen r i c t k s)
pointer_view r r' i c a p q t k s = ap (λ h. view_of h r'.seat (lent i c t k) s) p ∙ ap (λ h. view_of r.shared h (lent i c t k) s) q
