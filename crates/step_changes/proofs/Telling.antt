-- A story: the line CREATE A FORGET A after boot.
use Rattle.std.proofs.Common.{◌≡◌, ℕ, false, List, [], codes, refl, arith, lit≤}
use Rattle.store.specs.Meaning.{Meaning}
use Rattle.definition.specs.Machine.{Machine}
use Rattle.definition.specs.Asked.{After, began, forgot, no_news}
use Rattle.definition.specs.Boot.{boot}
use Rattle.definition.specs.Step
use Rattle.definition.specs.Step.{Outcome, step}
use Rattle.definition.specs.Calls.{lined}
use Rattle.definition.specs.Computes.{machine_computes}
use Rattle.forgetting.proofs.Booting.{all_bytes_lem}
use Rattle.step_changes.specs.Steady.{StoreHolds}
use Rattle.step_changes.specs.Laws as laws
use Rattle.step_changes.specs.Laws.{StoryTold}
use Rattle.step_changes.proofs.Ranges.{bytes_none}

-- a store without blocks
abbrev card : Meaning
card = record { count = 0; writable = false; blocks = [] }

card_holds : StoreHolds card
card_holds = record {
  sound = record { few = lit≤ tt; counted = refl; whole = λ k h. absurd (omega arith) };
  bytes = λ k. bytes_none;
}

abbrev text : List ℕ
text = codes "CREATE A FORGET A"

abbrev before : Machine
before = lined text (boot card)

-- what a step that went leaves
abbrev left : Machine → Outcome → After
left m (Step.went a) = a
left m (Step.finished m') = record { machine = m; typed = []; news = no_news }
left m (Step.failed why m') = record { machine = m; typed = []; news = no_news }

abbrev begun : After
begun = left before (step before)

abbrev done : After
done = left begun.machine (step begun.machine)

begins : step before ≡ Step.went begun
unfolding machine_computes
begins = refl

word : begun.news ≡ began 1620
unfolding machine_computes
word = refl

forgets : step begun.machine ≡ Step.went done
unfolding machine_computes
forgets = refl

gone : done.news ≡ forgot 1620
unfolding machine_computes
gone = refl

pub story_told : StoryTold
story_told = record {
  word = 1620;
  before = before;
  found = begun.machine;
  begun = begun;
  done = done;
  story = record {
    store = card;
    store_holds = card_holds;
    history = laws.after laws.here (laws.given text (all_bytes_lem text refl) (lit≤ tt));
    begins = begins;
    word = word;
    standing = laws.still;
    forgets = forgets;
    gone = gone;
  };
}
