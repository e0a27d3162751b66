-- How the definition comes to the end of each word on the return stack.
use Rattle.std.proofs.Common.{◌≡◌, ℕ, ◌+◌, ◌<◌, ◌≤◌, true, false, List, [], ◌∷◌, length, get_or, Ok, Err, Result, sym, refl, ap, ◌∙◌}
use Rattle.fault.specs.declared.Fault.{Fault}
use Rattle.fault.specs.declared.Reason.{Reason}
use Rattle.fault.specs.declared.Reason.TheVariants.{StackUnderflow, StackOverflow, ReturnUnderflow, ReturnOverflow}
use Rattle.fault.specs.Numbers.{fault_of}
use Rattle.store.specs.Meaning.{Meaning}
use Rattle.stacks.specs.Stack.{stack_of}
use Rattle.definition.specs.declared.registers.Mark.{Mark}
use Rattle.definition.specs.declared.ranged.Registers.{Registers}
use Rattle.definition.specs.Machine.{Machine}
use Rattle.definition.specs.Asked.{Asked, refused, After, quietly}
use Rattle.definition.specs.Kernel
use Rattle.definition.specs.Kernel.{ReturnsWord}
use Rattle.definition.specs.Words.{Argument, perform}
use Rattle.definition.specs.Stacks.{has_cells, has_room, has_returns, has_return_room, nth, nth_return, popped, pushed, popped_returns, pushed_returns, go_to}
use Rattle.definition.specs.Flow.{do_returns}
use Rattle.steps.specs.Seats.{told_by}
use Rattle.steps.specs.Does.{seen, acts, Does, OnReturns}
use Rattle.steps.proofs.Exits.{refused_at, does_like, has_cells_lem, lacks_cells}
use Rattle.inner_words.specs.declared.words.ReturnsWord.{ReturnsWord as Word}
use Rattle.inner_words.specs.Numbers.{returns_number, copied_place}
use Rattle.inner_words.proofs.Views.{deep, deep_returns, Popped, Pushed, PoppedReturns, PushedReturn, Went, pop_view, push_view, pop_return_view, push_return_view, go_view, has_returns_lem, lacks_returns, has_return_room_lem, lacks_return_room, has_one, lacks_one}

abbrev pub Acts : ℕ → ReturnsWord → Type 0
Acts n w = (again : ℕ → Machine → Asked After) (a : Argument) (m : Machine) → acts n again a m ≡ do_returns w m

exit_acts : Acts 91 Kernel.exit
unfolding perform
exit_acts again a m = refl

to_r_acts : Acts 92 Kernel.to_r
unfolding perform
to_r_acts again a m = refl

r_from_acts : Acts 93 Kernel.from_r
unfolding perform
r_from_acts again a m = refl

-- R@ and I, and J
pub r_fetch_acts : Acts 94 (Kernel.copy_at 0)
unfolding perform
r_fetch_acts again a m = refl

pub index_acts : Acts 95 (Kernel.copy_at 0)
unfolding perform
index_acts again a m = refl

pub outer_index_acts : Acts 96 (Kernel.copy_at 3)
unfolding perform
outer_index_acts again a m = refl

leave_acts : Acts 97 Kernel.leave
unfolding perform
leave_acts again a m = refl

-- a refusal
refuses : (n : ℕ) (w : ReturnsWord) → Acts n w → (r : Registers) (c t : List ℕ) (e : Fault) (why : Reason) → ((i : List ℕ) (k : List Mark) (s : Meaning) → do_returns w (seen r i c t k s) ≡ refused why (seen r i c t k s)) → e ≡ fault_of why (told_by r.seat) → (i : List ℕ) → OnReturns n r i c t (Err e) r c t
refuses n w q r c t e why h p i = λ again a k s. refused_at (acts n again a) (seen r i c t k s) e why (q again a (seen r i c t k s) ∙ h i k s) p

-- each question, answered
exit_no : (m : Machine) → has_returns 1 m ≡ false → do_returns Kernel.exit m ≡ refused ReturnUnderflow m
exit_no m h = rw h

exit_yes : (m : Machine) → has_returns 1 m ≡ true → do_returns Kernel.exit m ≡ quietly (go_to (nth_return 0 m) (popped_returns 1 m))
exit_yes m h = rw h

leave_no : (m : Machine) → has_returns 3 m ≡ false → do_returns Kernel.leave m ≡ refused ReturnUnderflow m
leave_no m h = rw h

leave_yes : (m : Machine) → has_returns 3 m ≡ true → do_returns Kernel.leave m ≡ quietly (go_to (nth_return 2 m) (popped_returns 3 m))
leave_yes m h = rw h

to_r_no : (m : Machine) → has_cells 1 m ≡ false → do_returns Kernel.to_r m ≡ refused StackUnderflow m
to_r_no m h = rw h

to_r_full : (m : Machine) → has_cells 1 m ≡ true → has_return_room 1 m ≡ false → do_returns Kernel.to_r m ≡ refused ReturnOverflow m
to_r_full m h k = rw (h, k)

to_r_yes : (m : Machine) → has_cells 1 m ≡ true → has_return_room 1 m ≡ true → do_returns Kernel.to_r m ≡ quietly (pushed_returns (nth 0 m ∷ []) (popped 1 m))
to_r_yes m h k = rw (h, k)

r_from_full : (m : Machine) → has_room 1 m ≡ false → do_returns Kernel.from_r m ≡ refused StackOverflow m
r_from_full m h = rw h

r_from_no : (m : Machine) → has_room 1 m ≡ true → has_returns 1 m ≡ false → do_returns Kernel.from_r m ≡ refused ReturnUnderflow m
r_from_no m h k = rw (h, k)

r_from_yes : (m : Machine) → has_room 1 m ≡ true → has_returns 1 m ≡ true → do_returns Kernel.from_r m ≡ quietly (pushed (nth_return 0 m) (popped_returns 1 m))
r_from_yes m h k = rw (h, k)

copy_full : (j : ℕ) (m : Machine) → has_room 1 m ≡ false → do_returns (Kernel.copy_at j) m ≡ refused StackOverflow m
copy_full j m h = rw h

copy_no : (j : ℕ) (m : Machine) → has_room 1 m ≡ true → has_returns (j + 1) m ≡ false → do_returns (Kernel.copy_at j) m ≡ refused ReturnUnderflow m
copy_no j m h k = rw (h, k)

copy_yes : (j : ℕ) (m : Machine) → has_room 1 m ≡ true → has_returns (j + 1) m ≡ true → do_returns (Kernel.copy_at j) m ≡ quietly (pushed (nth_return j m) m)
copy_yes j m h k = rw (h, k)

-- the k-th cell of a stack
abbrev top : ℕ → List ℕ → ℕ → ℕ
top d c k = get_or (stack_of d c) k 0

module _ (r : Registers) (c t : List ℕ) (lc : length c ≡ 128) (lt : length t ≡ 128) where
  pub exit_short : (e : Fault) → deep_returns r < 1 → e ≡ fault_of ReturnUnderflow (told_by r.seat) → (i : List ℕ) → OnReturns 91 r i c t (Err e) r c t
  exit_short e h p = refuses 91 Kernel.exit exit_acts r c t e ReturnUnderflow (λ i k s. exit_no (seen r i c t k s) (lacks_returns r i c t k s lt 1 h)) p

  pub exit_done : (r' r'' : Registers) (x : ℕ) → 1 ≤ deep_returns r → x ≡ top (deep_returns r) t 0 → PoppedReturns r r' t 1 → Went r' r'' x → (i : List ℕ) → OnReturns 91 r i c t (Ok tt) r'' c t
  exit_done r' r'' x h p u v i = λ again a k s.
      exit_acts again a (seen r i c t k s) ∙ exit_yes (seen r i c t k s) (has_returns_lem r i c t k s lt 1 h)
      ∙ ap quietly (sym (go_view r' r'' i c c t t k s x v ∙ ap (go_to x) (pop_return_view r r' i c t k s 1 u) ∙ ap (λ y. go_to y (popped_returns 1 (seen r i c t k s))) p))

  pub leave_short : (e : Fault) → deep_returns r < 3 → e ≡ fault_of ReturnUnderflow (told_by r.seat) → (i : List ℕ) → OnReturns 97 r i c t (Err e) r c t
  leave_short e h p = refuses 97 Kernel.leave leave_acts r c t e ReturnUnderflow (λ i k s. leave_no (seen r i c t k s) (lacks_returns r i c t k s lt 3 h)) p

  pub leave_done : (r' r'' : Registers) (x : ℕ) → 3 ≤ deep_returns r → x ≡ top (deep_returns r) t 2 → PoppedReturns r r' t 3 → Went r' r'' x → (i : List ℕ) → OnReturns 97 r i c t (Ok tt) r'' c t
  leave_done r' r'' x h p u v i = λ again a k s.
      leave_acts again a (seen r i c t k s) ∙ leave_yes (seen r i c t k s) (has_returns_lem r i c t k s lt 3 h)
      ∙ ap quietly (sym (go_view r' r'' i c c t t k s x v ∙ ap (go_to x) (pop_return_view r r' i c t k s 3 u) ∙ ap (λ y. go_to y (popped_returns 3 (seen r i c t k s))) p))

  pub to_r_short : (e : Fault) → deep r < 1 → e ≡ fault_of StackUnderflow (told_by r.seat) → (i : List ℕ) → OnReturns 92 r i c t (Err e) r c t
  to_r_short e h p = refuses 92 Kernel.to_r to_r_acts r c t e StackUnderflow (λ i k s. to_r_no (seen r i c t k s) (lacks_cells r i c t k s lc 1 h)) p

  pub to_r_over : (e : Fault) → 1 ≤ deep r → 128 < 1 + deep_returns r → e ≡ fault_of ReturnOverflow (told_by r.seat) → (i : List ℕ) → OnReturns 92 r i c t (Err e) r c t
  to_r_over e h b p = refuses 92 Kernel.to_r to_r_acts r c t e ReturnOverflow (λ i k s. to_r_full (seen r i c t k s) (has_cells_lem r i c t k s lc 1 h) (lacks_return_room r i c t k s lt 1 b)) p

  pub to_r_done : (r' r'' : Registers) (t' : List ℕ) (x : ℕ) → 1 ≤ deep r → 1 + deep_returns r ≤ 128 → x ≡ top (deep r) c 0 → Popped r r' c 1 → PushedReturn r' r'' t t' x → (i : List ℕ) → OnReturns 92 r i c t (Ok tt) r'' c t'
  to_r_done r' r'' t' x h b p u v i = λ again a k s.
      to_r_acts again a (seen r i c t k s) ∙ to_r_yes (seen r i c t k s) (has_cells_lem r i c t k s lc 1 h) (has_return_room_lem r i c t k s lt 1 b)
      ∙ ap quietly (sym (push_return_view r' r'' i c c t t' k s x v ∙ ap (pushed_returns (x ∷ [])) (pop_view r r' i c c t t k s 1 u) ∙ ap (λ y. pushed_returns (y ∷ []) (popped 1 (seen r i c t k s))) p))

  pub r_from_over : (e : Fault) → 128 < 1 + deep r → e ≡ fault_of StackOverflow (told_by r.seat) → (i : List ℕ) → OnReturns 93 r i c t (Err e) r c t
  r_from_over e h p = refuses 93 Kernel.from_r r_from_acts r c t e StackOverflow (λ i k s. r_from_full (seen r i c t k s) (lacks_one r i c t k s lc h)) p

  pub r_from_short : (e : Fault) → 1 + deep r ≤ 128 → deep_returns r < 1 → e ≡ fault_of ReturnUnderflow (told_by r.seat) → (i : List ℕ) → OnReturns 93 r i c t (Err e) r c t
  r_from_short e h b p = refuses 93 Kernel.from_r r_from_acts r c t e ReturnUnderflow (λ i k s. r_from_no (seen r i c t k s) (has_one r i c t k s lc h) (lacks_returns r i c t k s lt 1 b)) p

  pub r_from_done : (r' r'' : Registers) (c' : List ℕ) (x : ℕ) → 1 + deep r ≤ 128 → 1 ≤ deep_returns r → x ≡ top (deep_returns r) t 0 → PoppedReturns r r' t 1 → Pushed r' r'' c c' x → (i : List ℕ) → OnReturns 93 r i c t (Ok tt) r'' c' t
  r_from_done r' r'' c' x h b p u v i = λ again a k s.
      r_from_acts again a (seen r i c t k s) ∙ r_from_yes (seen r i c t k s) (has_one r i c t k s lc h) (has_returns_lem r i c t k s lt 1 b)
      ∙ ap quietly (sym (push_view r' r'' i c c' t t k s x v ∙ ap (pushed x) (pop_return_view r r' i c t k s 1 u) ∙ ap (λ y. pushed y (popped_returns 1 (seen r i c t k s))) p))

  -- R@, I and J: the j-th return cell
  abbrev Copies : ℕ → Result (Unit {0}) Fault → Registers → List ℕ → Type 0
  Copies j o r' c' = (i : List ℕ) (k : List Mark) (s : Meaning) → Does (do_returns (Kernel.copy_at j)) (seen r i c t k s) o (seen r' i c' t k s)

  pub copy_over : (j : ℕ) (e : Fault) → 128 < 1 + deep r → e ≡ fault_of StackOverflow (told_by r.seat) → Copies j (Err e) r c
  copy_over j e h p i k s = refused_at (do_returns (Kernel.copy_at j)) (seen r i c t k s) e StackOverflow (copy_full j (seen r i c t k s) (lacks_one r i c t k s lc h)) p

  pub copy_short : (j : ℕ) (e : Fault) → 1 + deep r ≤ 128 → deep_returns r < j + 1 → e ≡ fault_of ReturnUnderflow (told_by r.seat) → Copies j (Err e) r c
  copy_short j e h b p i k s = refused_at (do_returns (Kernel.copy_at j)) (seen r i c t k s) e ReturnUnderflow (copy_no j (seen r i c t k s) (has_one r i c t k s lc h) (lacks_returns r i c t k s lt (j + 1) b)) p

  pub copy_done : (j : ℕ) (r' : Registers) (c' : List ℕ) (x : ℕ) → 1 + deep r ≤ 128 → j + 1 ≤ deep_returns r → x ≡ top (deep_returns r) t j → Pushed r r' c c' x → Copies j (Ok tt) r' c'
  copy_done j r' c' x h b p v i k s =
      copy_yes j (seen r i c t k s) (has_one r i c t k s lc h) (has_returns_lem r i c t k s lt (j + 1) b)
      ∙ ap quietly (sym (push_view r r' i c c' t t k s x v ∙ ap (λ y. pushed y (seen r i c t k s)) p))

  -- a word of the table that copies
  pub copied : (v w : Word) → v ≡ w → Acts (returns_number w) (Kernel.copy_at (copied_place w)) → (j : ℕ) → j ≡ copied_place v → (o : Result (Unit {0}) Fault) (r' : Registers) (c' : List ℕ) → Copies j o r' c' → (i : List ℕ) → OnReturns (returns_number v) r i c t o r' c' t
  copied v w p q j e o r' c' h i = λ again a k s.
      let m = seen r i c t k s in
      let like : acts (returns_number v) again a m ≡ do_returns (Kernel.copy_at j) m = rw p (q again a m) ∙ sym (ap (λ y. do_returns (Kernel.copy_at y) m) (e ∙ ap copied_place p)) in
      does_like (acts (returns_number v) again a) (do_returns (Kernel.copy_at j)) m (seen r' i c' t k s) o like (h i k s)
