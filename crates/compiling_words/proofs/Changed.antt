-- The ends of the words that change entries.
use Rattle.std.proofs.Common.{◌≡◌, ℕ, ◌+◌, ◌<◌, ◌≤◌, Bool, true, false, eqb, List, [], length, get_or, Ok, Err, sym, refl, ap, ◌∙◌, subst, arith, if◌then◌else◌}
use Rattle.fault.specs.declared.Fault.{Fault}
use Rattle.fault.specs.declared.Reason.TheVariants.{ReturnUnderflow, BadMark, DictionaryFull, NotCreated}
use Rattle.fault.specs.Numbers.{fault_of}
use Rattle.store.specs.Meaning.{Meaning}
use Rattle.stacks.specs.Stack.{stack_of}
use Rattle.stacks.proofs.Laws.{length_stack}
use Rattle.image.specs.Views.{low_of}
use Rattle.entries.specs.Entries.{first_at, token_of}
use Rattle.dictionary.specs.declared.registers.Dictionary.{Dictionary}
use Rattle.dictionary.specs.declared.registers.Ends.{Ends}
use Rattle.dictionary.specs.Dict.{Dict, appended, open_joined, immediate_marked, does_set, with_current}
use Rattle.dictionary.specs.Lent as lent
use Rattle.dictionary.specs.Lent.{Outside}
use Rattle.definition.specs.declared.registers.Mark.{Mark}
use Rattle.definition.specs.declared.ranged.Registers.{Registers}
use Rattle.definition.specs.Machine.{Machine, ip, with_compiling, changed}
use Rattle.definition.specs.Asked.{Asked, refused, ask, ◌>>◌, After, quietly}
use Rattle.definition.specs.Define.{fits}
use Rattle.definition.specs.Space.{has_newest}
use Rattle.definition.specs.Compile.{token}
use Rattle.definition.specs.Flow.{exited}
use Rattle.definition.specs.Stacks.{has_returns, popped_returns, go_to}
use Rattle.definition.specs.Words.{Argument, perform}
use Rattle.steps.specs.Seats.{told_by}
use Rattle.steps.specs.Does.{seen, acts, IsRefused}
use Rattle.steps.proofs.Exits.{refused_at}
use Rattle.steps.proofs.Changing.{ReadOff, PutBack, read_back, changed_view}
use Rattle.inner_words.proofs.Views.{PoppedReturns, Went, pop_return_view, go_view, has_returns_lem, lacks_returns}
use Rattle.steps.specs.Spaces.{InSpace}
use Rattle.steps.proofs.Answered.{spaced, full_stays}
use Rattle.compiling_words.specs.Acting.{is_made, OnState}
use Rattle.compiling_words.proofs.Appended.{two}

pub token_below : (low : List ℕ) (e : ℕ) → token_of low e + 2 ≡ first_at low e
unfolding first_at
token_below low e = omega arith

-- a change that leaves HERE
module _ (f : Dict → Dict) (z : (D : Dict) → (f D).here ≡ D.here) (r : Registers) (d : Dictionary) (i : List ℕ) (li : length i ≡ 65536) (p : ReadOff r d) where
  pub put_view : (r' : Registers) (d' : Dictionary) (i' : List ℕ) → PutBack r r' d' → lent.dict_of d' i' ≡ f (lent.dict_of d i) → Outside i i' → (c t : List ℕ) (k : List Mark) (s : Meaning) → seen r' i' c t k s ≡ changed f (seen r i c t k s)
  put_view r' d' i' q e o c t k s = changed_view r r' d d' i i' f li p q e o c t k s (ap (λ (D : Dict). D.here) e ∙ z (lent.dict_of d i) ∙ ap (λ (y : Ends). y.here) p.ends)

  -- by bytes alone
  pub same_view : (i' : List ℕ) → lent.dict_of d i' ≡ f (lent.dict_of d i) → Outside i i' → (c t : List ℕ) (k : List Mark) (s : Meaning) → seen r i' c t k s ≡ changed f (seen r i c t k s)
  same_view i' e o c t k s = put_view r d i' (read_back r d p) e o c t k s

-- ;
end_acts : (again : ℕ → Machine → Asked After) (a : Argument) (m : Machine) → acts 65 again a m ≡ (ask m BadMark (eqb (length m.stacks.marks) 0) >> (ask m DictionaryFull (fits 2 m) >> quietly (with_compiling false (changed (λ D. open_joined (appended (token 91) D)) m))))
unfolding perform
end_acts again a m = refl

module _ (r : Registers) (i : List ℕ) (c t : List ℕ) (k : List Mark) (s : Meaning) (lk : length k ≡ 32) where
  marks_are : length (stack_of r.seat.depths.marks k) ≡ r.seat.depths.marks
  marks_are = length_stack r.seat.depths.marks k (omega (arith, lk, r.marks))

  end_asked : (b : Bool) → eqb r.seat.depths.marks 0 ≡ b → (again : ℕ → Machine → Asked After) (a : Argument) → acts 65 again a (seen r i c t k s) ≡ (ask (seen r i c t k s) BadMark b >> (ask (seen r i c t k s) DictionaryFull (fits 2 (seen r i c t k s)) >> quietly (with_compiling false (changed (λ D. open_joined (appended (token 91) D)) (seen r i c t k s)))))
  end_asked b h again a =
      let m = seen r i c t k s in
      end_acts again a m
      ∙ ap (λ y. ask m BadMark y >> (ask m DictionaryFull (fits 2 m) >> quietly (with_compiling false (changed (λ D. open_joined (appended (token 91) D)) m)))) (ap (λ n. eqb n 0) marks_are ∙ h)

pub end_marks : (r : Registers) (i : List ℕ) (e : Fault) → eqb r.seat.depths.marks 0 ≡ false → e ≡ fault_of BadMark (told_by r.seat) → (c t : List ℕ) → OnState 65 r i c t (Err e) r i
end_marks r i e h p c t = λ again a k s l. refused_at (acts 65 again a) (seen r i c t k s) e BadMark (end_asked r i c t k s l false h again a) p

module _ (r : Registers) (i bs : List ℕ) (p : bs ≡ token 91) (h : eqb r.seat.depths.marks 0 ≡ true) where
  end_is : (again : ℕ → Machine → Asked After) (a : Argument) (c t : List ℕ) (k : List Mark) (s : Meaning) → length k ≡ 32 → acts 65 again a (seen r i c t k s) ≡ (ask (seen r i c t k s) DictionaryFull (fits (length bs) (seen r i c t k s)) >> quietly (with_compiling false (changed (λ D. open_joined (appended bs D)) (seen r i c t k s))))
  end_is again a c t k s l =
      let m = seen r i c t k s in
      end_asked r i c t k s l true h again a
      ∙ ap (λ n. ask m DictionaryFull (fits n m) >> quietly (with_compiling false (changed (λ D. open_joined (appended (token 91) D)) m))) (sym (ap length p ∙ two _))
      ∙ ap (λ y. ask m DictionaryFull (fits (length bs) m) >> quietly (with_compiling false (changed (λ D. open_joined (appended y D)) m))) (sym p)

  pub end_full : (r1 : Registers) (i1 : List ℕ) (e : Fault) → InSpace (length bs) (appended bs) r i (Err e) r1 i1 → (c t : List ℕ) → OnState 65 r i c t (Err e) r1 i1
  end_full r1 i1 e f c t = λ again a k s l.
      let m = seen r i c t k s in
      let d = f c t k s in
      (subst (λ (y : Asked After). IsRefused y e m) (sym (end_is again a c t k s l)) (full_stays (fits (length bs) m) m _ _ e d.0), d.1)

  module _ (r1 : Registers) (i1 : List ℕ) (f : InSpace (length bs) (appended bs) r i (Ok tt) r1 i1) where
    pub still_open : r1.shared.names.opened ≡ r.shared.names.opened
    still_open =
        let none : Meaning = record { count = 0; writable = Bool.false; blocks = [] } in
        ap (λ (m : Machine). m.names.opened) (spaced _ (seen r i [] [] [] none) (changed (appended bs) (seen r i [] [] [] none)) (seen r1 i1 [] [] [] none) (f [] [] [] none)).1

    pub end_done : (r2 r3 : Registers) (i2 : List ℕ) → ((c t : List ℕ) (k : List Mark) (s : Meaning) → seen r2 i2 c t k s ≡ changed open_joined (seen r1 i1 c t k s)) → ((c t : List ℕ) (k : List Mark) (s : Meaning) → seen r3 i2 c t k s ≡ with_compiling false (seen r2 i2 c t k s)) → (c t : List ℕ) → OnState 65 r i c t (Ok tt) r3 i2
    end_done r2 r3 i2 u v c t = λ again a k s l.
        let m = seen r i c t k s in
        let e = spaced (fits (length bs) m) m (changed (appended bs) m) (seen r1 i1 c t k s) (f c t k s) in
        end_is again a c t k s l
        ∙ ap (λ b. ask m DictionaryFull b >> quietly (with_compiling false (changed (λ D. open_joined (appended bs D)) m))) e.0
        ∙ ap quietly (sym (v c t k s ∙ ap (with_compiling false) (u c t k s ∙ ap (changed open_joined) e.1)))

-- DEFINITIONS
definitions_acts : (again : ℕ → Machine → Asked After) (a : Argument) (m : Machine) → acts 70 again a m ≡ quietly (changed (λ D. with_current D.context D) m)
unfolding perform
definitions_acts again a m = refl

pub definitions_done : (r r' : Registers) (i c t : List ℕ) → ((k : List Mark) (s : Meaning) → seen r' i c t k s ≡ changed (λ D. with_current D.context D) (seen r i c t k s)) → OnState 70 r i c t (Ok tt) r' i
definitions_done r r' i c t v = λ again a k s l. definitions_acts again a (seen r i c t k s) ∙ ap quietly (sym (v k s))

-- IMMEDIATE
immediate_acts : (again : ℕ → Machine → Asked After) (a : Argument) (m : Machine) → acts 71 again a m ≡ quietly (if has_newest m then changed immediate_marked m else m)
unfolding perform
immediate_acts again a m = refl

pub immediate_done : (r : Registers) (i i' : List ℕ) → ((c t : List ℕ) (k : List Mark) (s : Meaning) → has_newest (seen r i c t k s) ≡ true) → ((c t : List ℕ) (k : List Mark) (s : Meaning) → seen r i' c t k s ≡ changed immediate_marked (seen r i c t k s)) → (c t : List ℕ) → OnState 71 r i c t (Ok tt) r i'
immediate_done r i i' h v c t = λ again a k s l.
    let m = seen r i c t k s in
    immediate_acts again a m ∙ ap (λ b. quietly (if b then changed immediate_marked m else m)) (h c t k s) ∙ ap quietly (sym (v c t k s))

pub immediate_none : (r : Registers) (i : List ℕ) → ((c t : List ℕ) (k : List Mark) (s : Meaning) → has_newest (seen r i c t k s) ≡ false) → (c t : List ℕ) → OnState 71 r i c t (Ok tt) r i
immediate_none r i h c t = λ again a k s l.
    let m = seen r i c t k s in
    immediate_acts again a m ∙ ap (λ b. quietly (if b then changed immediate_marked m else m)) (h c t k s)

-- (;CODE)
code_acts : (again : ℕ → Machine → Asked After) (a : Argument) (m : Machine) → acts 104 again a m ≡ (ask m ReturnUnderflow (has_returns 1 m) >> (ask m NotCreated (is_made m.low m.names.newest) >> quietly (exited (changed (does_set (ip m)) m))))
unfolding perform
code_acts again a m = refl

code_no : (again : ℕ → Machine → Asked After) (a : Argument) (m : Machine) → has_returns 1 m ≡ false → acts 104 again a m ≡ refused ReturnUnderflow m
code_no again a m h = code_acts again a m ∙ ap (λ b. ask m ReturnUnderflow b >> (ask m NotCreated (is_made m.low m.names.newest) >> quietly (exited (changed (does_set (ip m)) m)))) h

code_other : (again : ℕ → Machine → Asked After) (a : Argument) (m : Machine) → has_returns 1 m ≡ true → is_made m.low m.names.newest ≡ false → acts 104 again a m ≡ refused NotCreated m
code_other again a m h g =
    code_acts again a m ∙ ap (λ b. ask m ReturnUnderflow b >> (ask m NotCreated (is_made m.low m.names.newest) >> quietly (exited (changed (does_set (ip m)) m)))) h
    ∙ ap (λ b. ask m NotCreated b >> quietly (exited (changed (does_set (ip m)) m))) g

code_goes : (again : ℕ → Machine → Asked After) (a : Argument) (m : Machine) → has_returns 1 m ≡ true → is_made m.low m.names.newest ≡ true → acts 104 again a m ≡ quietly (exited (changed (does_set (ip m)) m))
code_goes again a m h g =
    code_acts again a m ∙ ap (λ b. ask m ReturnUnderflow b >> (ask m NotCreated (is_made m.low m.names.newest) >> quietly (exited (changed (does_set (ip m)) m)))) h
    ∙ ap (λ b. ask m NotCreated b >> quietly (exited (changed (does_set (ip m)) m))) g

module _ (r : Registers) (i t : List ℕ) (lt : length t ≡ 128) where
  pub code_short : (e : Fault) → r.seat.depths.returns < 1 → e ≡ fault_of ReturnUnderflow (told_by r.seat) → (c : List ℕ) → OnState 104 r i c t (Err e) r i
  code_short e h p c = λ again a k s l. refused_at (acts 104 again a) (seen r i c t k s) e ReturnUnderflow (code_no again a (seen r i c t k s) (lacks_returns r i c t k s lt 1 h)) p

  pub code_wrong : (e : Fault) → 1 ≤ r.seat.depths.returns → is_made (low_of r.shared.ends.dp i) r.shared.names.newest ≡ false → e ≡ fault_of NotCreated (told_by r.seat) → (c : List ℕ) → OnState 104 r i c t (Err e) r i
  code_wrong e h g p c = λ again a k s l. refused_at (acts 104 again a) (seen r i c t k s) e NotCreated (code_other again a (seen r i c t k s) (has_returns_lem r i c t k s lt 1 h) g) p

  pub code_done : (r1 r2 : Registers) (i' : List ℕ) (x : ℕ) → 1 ≤ r.seat.depths.returns → is_made (low_of r.shared.ends.dp i) r.shared.names.newest ≡ true → ((c t : List ℕ) (k : List Mark) (s : Meaning) → seen r i' c t k s ≡ changed (does_set r.seat.flow.ip) (seen r i c t k s)) → x ≡ get_or (stack_of r.seat.depths.returns t) 0 0 → PoppedReturns r r1 t 1 → Went r1 r2 x → (c : List ℕ) → OnState 104 r i c t (Ok tt) r2 i'
  code_done r1 r2 i' x h g v p u w c = λ again a k s l.
      let m = seen r i c t k s in
      code_goes again a m (has_returns_lem r i c t k s lt 1 h) g
      ∙ ap quietly (sym (go_view r1 r2 i' c c t t k s x w ∙ ap (go_to x) (pop_return_view r r1 i' c t k s 1 u) ∙ ap (λ y. go_to x (popped_returns 1 y)) (v c t k s) ∙ ap (λ y. go_to y (popped_returns 1 (changed (does_set r.seat.flow.ip) m))) p))
