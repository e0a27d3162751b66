-- The search order.
use Rattle.std.specs.Prelude.{ℕ, List}
use Rattle.entries.specs.Entries.{forth}
use Rattle.entries.specs.Search.{Found, missing, broken, hit, search_in}
use Rattle.dictionary.specs.Dict.{Dict}

-- the first answer that is not "missing"
abbrev pub or_else : Found → (Unit {0} → Found) → Found
or_else missing next = next tt
or_else broken next = broken
or_else (hit e) next = hit e

-- CONTEXT, then CURRENT, then FORTH
unfoldable pub searched : Dict → List ℕ → Found
searched D name =
    or_else (search_in D.low D.context name) λ _.
    or_else (search_in D.low D.current name) λ _.
    search_in D.low forth name
