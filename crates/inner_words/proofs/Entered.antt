-- How the definition comes to the end of each word that is entered.
use Rattle.std.proofs.Common.{◌≡◌, ℕ, ◌+◌, ◌<◌, ◌≤◌, Bool, true, false, List, [], ◌∷◌, length, Ok, Err, Result, sym, ap, ◌∙◌, arith}
use Rattle.fault.specs.declared.Fault.{Fault}
use Rattle.fault.specs.declared.Reason.TheVariants.{StackOverflow, ReturnOverflow, BadToken}
use Rattle.fault.specs.Numbers.{fault_of}
use Rattle.store.specs.Meaning.{Meaning}
use Rattle.image.specs.Cells.{cell_at}
use Rattle.image.specs.Views.{low_of}
use Rattle.image.proofs.Laws.{cell_low}
use Rattle.definition.specs.declared.registers.Mark.{Mark}
use Rattle.definition.specs.declared.ranged.Registers.{Registers}
use Rattle.definition.specs.Machine.{Machine, ip}
use Rattle.definition.specs.Asked.{refused, quietly}
use Rattle.definition.specs.Words.{other_word}
use Rattle.definition.specs.Stacks.{pushed, pushed_returns, has_room, has_return_room, go_to}
use Rattle.definition.specs.Flow.{in_dictionary}
use Rattle.steps.specs.Inside.{inside}
use Rattle.steps.specs.Seats.{told_by}
use Rattle.steps.specs.Does.{seen, Does}
use Rattle.steps.proofs.Exits.{refused_at}
use Rattle.inner_words.proofs.Views.{Pushed, PushedReturn, Went, push_view, push_return_view, go_view, has_return_room_lem, lacks_return_room, has_one, lacks_one}
use Rattle.steps.proofs.Dictionary.{inside_tells, inside_is}

-- IP is kept and goes to an address
abbrev pub entered : ℕ → ℕ → Machine → Machine
entered a from m = go_to a (pushed_returns (from ∷ []) m)

pub enter_view : (r r' r'' : Registers) (i c t t' : List ℕ) (k : List Mark) (s : Meaning) (a : ℕ) → PushedReturn r r' t t' r.seat.flow.ip → Went r' r'' a → seen r'' i c t' k s ≡ entered a r.seat.flow.ip (seen r i c t k s)
enter_view r r' r'' i c t t' k s a p q = go_view r' r'' i c c t' t' k s a q ∙ ap (go_to a) (push_return_view r r' i c c t t' k s r.seat.flow.ip p)

abbrev pub Enters : Registers → Registers → List ℕ → List ℕ → ℕ → Type 0
Enters r r' t t' a = (i c : List ℕ) (k : List Mark) (s : Meaning) → seen r' i c t' k s ≡ entered a r.seat.flow.ip (seen r i c t k s)

-- 201
colon_full : (t : ℕ) (m : Machine) → has_return_room 1 m ≡ false → other_word 201 t m ≡ refused ReturnOverflow m
colon_full t m h = rw h

colon_goes : (t : ℕ) (m : Machine) → has_return_room 1 m ≡ true → other_word 201 t m ≡ quietly (entered (t + 4) (ip m) m)
colon_goes t m h = rw h

module _ (r : Registers) (t : List ℕ) (lt : length t ≡ 128) (a : ℕ) where
  pub colon_over : (e : Fault) → 128 < 1 + r.seat.depths.returns → e ≡ fault_of ReturnOverflow (told_by r.seat) → (i c : List ℕ) (k : List Mark) (s : Meaning) → Does (other_word 201 a) (seen r i c t k s) (Err e) (seen r i c t k s)
  colon_over e h p i c k s = refused_at (other_word 201 a) (seen r i c t k s) e ReturnOverflow (colon_full a (seen r i c t k s) (lacks_return_room r i c t k s lt 1 h)) p

  pub colon_done : (r' : Registers) (t' : List ℕ) → 1 + r.seat.depths.returns ≤ 128 → Enters r r' t t' (a + 4) → (i c : List ℕ) (k : List Mark) (s : Meaning) → Does (other_word 201 a) (seen r i c t k s) (Ok tt) (seen r' i c t' k s)
  colon_done r' t' h v i c k s = colon_goes a (seen r i c t k s) (has_return_room_lem r i c t k s lt 1 h) ∙ ap quietly (sym (v i c k s))

-- 205
does_far : (t : ℕ) (m : Machine) → in_dictionary t 6 m ≡ false → other_word 205 t m ≡ refused BadToken m
does_far t m h = rw h

does_full : (t : ℕ) (m : Machine) → in_dictionary t 6 m ≡ true → has_room 1 m ≡ false → other_word 205 t m ≡ refused StackOverflow m
does_full t m h k = rw (h, k)

does_deep : (t : ℕ) (m : Machine) → in_dictionary t 6 m ≡ true → has_room 1 m ≡ true → has_return_room 1 m ≡ false → other_word 205 t m ≡ refused ReturnOverflow m
does_deep t m h k l = rw (h, k, l)

does_goes : (t : ℕ) (m : Machine) → in_dictionary t 6 m ≡ true → has_room 1 m ≡ true → has_return_room 1 m ≡ true → other_word 205 t m ≡ quietly (entered (cell_at m.low (t + 4)) (ip m) (pushed (cell_at m.low (t + 2)) m))
does_goes t m h k l = rw (h, k, l)

module _ (r : Registers) (i c t : List ℕ) (li : length i ≡ 65536) (lc : length c ≡ 128) (lt : length t ≡ 128) (a : ℕ) where
  there : (k : List Mark) (s : Meaning) (b : Bool) → inside a 6 r.shared.ends.dp ≡ b → in_dictionary a 6 (seen r i c t k s) ≡ b
  there k s b h = inside_is r i li c t k s a 6 b h

  abbrev Ends : Result (Unit {0}) Fault → Registers → List ℕ → List ℕ → Type 0
  Ends o r' c' t' = (k : List Mark) (s : Meaning) → Does (other_word 205 a) (seen r i c t k s) o (seen r' i c' t' k s)

  pub does_outside : (e : Fault) → inside a 6 r.shared.ends.dp ≡ false → e ≡ fault_of BadToken (told_by r.seat) → Ends (Err e) r c t
  does_outside e h p k s = refused_at (other_word 205 a) (seen r i c t k s) e BadToken (does_far a (seen r i c t k s) (there k s false h)) p

  pub does_over : (e : Fault) → inside a 6 r.shared.ends.dp ≡ true → 128 < 1 + r.seat.depths.cells → e ≡ fault_of StackOverflow (told_by r.seat) → Ends (Err e) r c t
  does_over e h b p k s = refused_at (other_word 205 a) (seen r i c t k s) e StackOverflow (does_full a (seen r i c t k s) (there k s true h) (lacks_one r i c t k s lc b)) p

  pub does_returns_over : (e : Fault) → inside a 6 r.shared.ends.dp ≡ true → 1 + r.seat.depths.cells ≤ 128 → 128 < 1 + r.seat.depths.returns → e ≡ fault_of ReturnOverflow (told_by r.seat) → Ends (Err e) r c t
  does_returns_over e h b g p k s = refused_at (other_word 205 a) (seen r i c t k s) e ReturnOverflow (does_deep a (seen r i c t k s) (there k s true h) (has_one r i c t k s lc b) (lacks_return_room r i c t k s lt 1 g)) p

  pub does_done : (r' r'' : Registers) (c' t' : List ℕ) (body code : ℕ) → inside a 6 r.shared.ends.dp ≡ true → 1 + r.seat.depths.cells ≤ 128 → 1 + r.seat.depths.returns ≤ 128 → body ≡ cell_at i (a + 2) → code ≡ cell_at i (a + 4) → Pushed r r' c c' body → r'.seat.flow.ip ≡ r.seat.flow.ip → Enters r' r'' t t' code → Ends (Ok tt) r'' c' t'
  does_done r' r'' c' t' body code h b g p q u f v k s =
      let n = inside_tells a 6 r.shared.ends.dp h in
      let m = seen r i c t k s in
      let x : cell_at (low_of r.shared.ends.dp i) (a + 2) ≡ body = cell_low r.shared.ends.dp i (a + 2) (omega (arith, n.0)) (omega (arith, n.1)) ∙ sym p in
      let y : cell_at (low_of r.shared.ends.dp i) (a + 4) ≡ code = cell_low r.shared.ends.dp i (a + 4) (omega (arith, n.0)) (omega (arith, n.1)) ∙ sym q in
      does_goes a m (there k s true h) (has_one r i c t k s lc b) (has_return_room_lem r i c t k s lt 1 g)
      ∙ ap (λ z. quietly (entered z (ip m) (pushed (cell_at (low_of r.shared.ends.dp i) (a + 2)) m))) y
      ∙ ap (λ z. quietly (entered code (ip m) (pushed z m))) x
      ∙ ap quietly (sym (v i c' k s ∙ ap (λ z. entered code z (seen r' i c' t k s)) f ∙ ap (entered code (ip m)) (push_view r r' i c c' t t k s body u)))
