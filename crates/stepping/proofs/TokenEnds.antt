-- The ends of taking a token.
use Rattle.std.proofs.Common.{◌≡◌, ℕ, ◌+◌, true, false, List, length, Ok, Err, sym, refl, ap, ◌∙◌, subst, arith}
use Rattle.fault.specs.declared.Fault.{Fault}
use Rattle.fault.specs.declared.Reason.TheVariants.{BadToken}
use Rattle.fault.specs.Numbers.{fault_of}
use Rattle.store.specs.Meaning.{Meaning}
use Rattle.image.specs.Cells.{cell_at}
use Rattle.image.proofs.Laws.{cell_low}
use Rattle.definition.specs.declared.registers.Mark.{Mark}
use Rattle.definition.specs.declared.ranged.Registers.{Registers}
use Rattle.definition.specs.Machine.{Machine, ip, with_ip}
use Rattle.definition.specs.Asked.{Asked, refused, ask, ◌>>◌, After}
use Rattle.definition.specs.Flow.{has_inline, inline, past}
use Rattle.definition.specs.Words.{execute}
use Rattle.definition.specs.Step.{from_tokens}
use Rattle.steps.specs.Inside.{inside}
use Rattle.steps.specs.Seats.{told_by}
use Rattle.steps.specs.Does.{seen, IsRefused}
use Rattle.steps.proofs.Dictionary.{inside_tells, inside_is}
use Rattle.stepping.specs.Steps.{with_source, TakesToken}

no_token : (m : Machine) → has_inline m ≡ false → from_tokens m ≡ refused BadToken m
no_token m h = ap (λ b. ask m BadToken b >> execute (inline m) (past m)) h

a_token : (m : Machine) → has_inline m ≡ true → from_tokens m ≡ execute (inline m) (past m)
a_token m h = ap (λ b. ask m BadToken b >> execute (inline m) (past m)) h

module _ (r : Registers) (i : List ℕ) (li : length i ≡ 65536) where
  pub token_far : (e : Fault) → inside r.seat.flow.ip 2 r.shared.ends.dp ≡ false → e ≡ fault_of BadToken (told_by r.seat) → TakesToken r i (Err e) r
  token_far e h p c t k s =
      let m = seen r i c t k s in
      subst (λ (y : Asked After). IsRefused y e m) (sym (no_token m (inside_is r i li c t k s r.seat.flow.ip 2 false h))) (p, refl)

  pub token_taken : (r1 : Registers) (x : ℕ) → inside r.seat.flow.ip 2 r.shared.ends.dp ≡ true → x ≡ cell_at i r.seat.flow.ip → ((c t : List ℕ) (k : List Mark) (s : Meaning) → seen r1 i c t k s ≡ with_ip (r.seat.flow.ip + 2) (seen r i c t k s)) → TakesToken r i (Ok x) r1
  token_taken r1 x h p v c t k s =
      let m = seen r i c t k s in
      let b = inside_tells r.seat.flow.ip 2 r.shared.ends.dp h in (
        a_token m (inside_is r i li c t k s r.seat.flow.ip 2 true h)
            ∙ ap (λ y. execute y (past m)) (cell_low r.shared.ends.dp i r.seat.flow.ip (omega (arith, b.0)) (omega (arith, b.1)) ∙ sym p)
            ∙ ap (execute x) (sym (v c t k s)),
        ap (λ y. with_ip (ip m) (with_source m.text.source y)) (v c t k s),
      )
