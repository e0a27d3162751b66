-- Walking the vocabulary chain, and searching a vocabulary of it first.
use Rattle.std.specs.Prelude.{ℕ, ◌+◌, Bool, cond, ◌&&◌, length, Ok, Err, Result, ◌==◌, nat_le}
use Rattle.fault.specs.declared.Fault.{Fault}
use Rattle.fault.specs.declared.Place.{Place}
use Rattle.fault.specs.declared.Reason.TheVariants.{BrokenLink, BadToken}
use Rattle.fault.specs.Numbers.{fault_of}
use Rattle.entries.specs.Search.{Found, missing, broken, hit}
use Rattle.dictionary.specs.Dict.{Dict, with_context}
use Rattle.dictionary.specs.Kept.{kept_end}
use Rattle.dictionary.specs.Trim.{is_chain, link_in_order, on_chain}

-- what a vocabulary link names, where `before` holds it: a link in order, or at the chain's end nothing
abbrev pub vocabulary_linked : ℕ → ℕ → ℕ → Found
vocabulary_linked dp before k = cond (k == 0) missing (cond (link_in_order dp before k) (hit k) broken)

-- is v on the chain? 6 if a link of the chain is out of order
abbrev pub chain_asked : ℕ → Place → Dict → Result Bool Fault
chain_asked v told D = cond (is_chain D) (Ok (on_chain v D)) (Err (fault_of BrokenLink told))

-- it lies behind FORTH's beginning, and stays if the open entry is given up
abbrev pub stays : ℕ → Dict → Bool
stays v D = nat_le 270 v && nat_le (v + 10) (kept_end (length D.low) D.opened)

-- v is searched first, if it is on the chain and stays, 22
abbrev pub sought : ℕ → Place → Dict → Result Dict Fault
sought v told D =
    cond (is_chain D) (cond (on_chain v D && stays v D) (Ok (with_context v D)) (Err (fault_of BadToken told))) (Err (fault_of BrokenLink told))
