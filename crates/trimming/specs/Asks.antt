-- What is asked before a word is forgotten, in this order.
use Rattle.std.specs.Prelude.{ℕ, Bool, cond, ◌&&◌, ◌||◌, length, Ok, Err, Result, nat_le, nat_lt}
use Rattle.fault.specs.declared.Fault.{Fault}
use Rattle.fault.specs.declared.Place.{Place}
use Rattle.fault.specs.declared.Reason.TheVariants.{BrokenLink, BadToken, BelowFence}
use Rattle.fault.specs.Numbers.{fault_of}
use Rattle.entries.specs.Entries.{body_of}
use Rattle.dictionary.specs.Dict.{Dict}
use Rattle.dictionary.specs.Trim.{ordered, can_forget, forgotten}

-- w is in order, and if it is not under FENCE all that is walked is in order too
abbrev pub in_order_for : ℕ → ℕ → Dict → Bool
in_order_for fence w D = ordered D.low (length D.low) w && (nat_lt w fence || can_forget w D)

-- 6
abbrev pub orders_asked : ℕ → ℕ → Place → Dict → Result (Unit {0}) Fault
orders_asked fence w told D = cond (in_order_for fence w D) (Ok tt) (Err (fault_of BrokenLink told))

-- data space can go back to w's first parameter cell, 22; w is not the kernel's, 23; then w and all that is younger goes
abbrev pub trimmed_at : ℕ → ℕ → Place → Dict → Result Dict Fault
trimmed_at fence w told D =
    cond (nat_le 34048 (body_of D.low w) && nat_le (body_of D.low w) D.here)
    (cond (nat_le fence w) (Ok (forgotten w D)) (Err (fault_of BelowFence told)))
    (Err (fault_of BadToken told))
