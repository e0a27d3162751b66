-- A question that is answered by a no finds the lasting parts of the machine as they were before the step, or with the buffer written out.
use Rattle.std.proofs.Common.{◌≡◌, ℕ, zero, suc, ◌+◌, Bool, true, false, ◌&&◌, eqb, ltb, leb, ◌⊎◌, List, [], ◌∷◌, length, take, drop, Some, None, Option, sym, refl, ap, ◌∙◌, subst, inl, inr, if◌then◌else◌}
use Rattle.fault.specs.declared.Reason.{Reason}
use Rattle.fault.specs.declared.Reason.TheVariants.{NothingFollows, BadName, StackUnderflow, BadToken, NoBlock, NotWritable}
use Rattle.store.specs.Meaning.{Meaning, block, written}
use Rattle.dictionary.specs.declared.registers.Names.{Names}
use Rattle.dictionary.specs.declared.registers.SearchOrder.{SearchOrder}
use Rattle.image.specs.Cells.{cell_at}
use Rattle.dictionary.specs.Dict.{Dict, given_up}
use Rattle.entries.specs.Search.{Found, missing, broken, hit, search_in}
use Rattle.dictionary.specs.Search.{searched}
use Rattle.definition.specs.declared.registers.Buffer.{Buffer}
use Rattle.definition.specs.declared.registers.Position.{Position}
use Rattle.definition.specs.Machine.{Machine, ip, blk, dict_of, offset, reading_on, with_blocks}
use Rattle.definition.specs.Asked.{Asked, refused, given, ask, ◌>>=◌, ◌>>◌, After, quietly}
use Rattle.definition.specs.Text.{Taken, buffer_of, is_name, take_name, take_to, next_word, no_word_left, ask_found, ask_there}
use Rattle.numbers.specs.Text.{number_in}
use Rattle.definition.specs.Kernel
use Rattle.definition.specs.Kernel.{Row, Takes, Asks, Action}
use Rattle.definition.specs.Stacks.{replaced, nth, has_cells, popped, pushed, do_cells}
use Rattle.definition.specs.Space.{stored, base, do_space, do_typing}
use Rattle.definition.specs.Flow.{in_dictionary, has_inline, inline, past, do_returns, do_inline}
use Rattle.definition.specs.Blocks
use Rattle.definition.specs.Blocks.{saved, brought, do_blocks}
use Rattle.definition.specs.Define.{do_defining}
use Rattle.definition.specs.Compile.{do_compiling}
use Rattle.definition.specs.Words
use Rattle.definition.specs.Words.{Argument, taken, all_asked, perform, do_kernel, execute_within, execute}
use Rattle.definition.specs.Step
use Rattle.definition.specs.Step.{Outcome, step}
use Rattle.definition.specs.Run.{cleared}
use Rattle.definition.specs.Laws.{Keeps, FaultKeeps}

-- what lasts over a fault
pub record Lasting : Type 0 where
  pub low : List ℕ
  pub high : List ℕ
  pub line : List ℕ
  pub names : Names
  pub order : SearchOrder
  pub buffer : Buffer
  pub store : Meaning

abbrev lasting : Machine → Lasting
lasting m = record { low = m.low; high = m.high; line = m.text.line; names = m.names; order = m.order; buffer = m.buffer; store = m.store }

-- the same with the buffer written out to block n
abbrev written_out : ℕ → Lasting → Lasting
written_out n l = record { low = l.low; high = l.high; line = l.line; names = l.names; order = l.order; buffer = record { held = Some n; updated = false }; store = written l.store n (take 1024 (drop 256 l.high)) }

abbrev Same : Machine → Machine → Type 0
Same o m = lasting m ≡ lasting o

abbrev Saved : Machine → Machine → Type 0
Saved o m = (n : ℕ) × (o.buffer ≡ record { held = Some n; updated = true }) × (lasting m ≡ written_out n (lasting o))

-- a refusal finds what was kept, and an answer carries it on
abbrev Keeping : {A : Type 0} → Machine → Asked A → Type 0
Keeping o (refused why m) = Same o m ⊎ Saved o m
Keeping o (given a) = Unit {0}

abbrev Carrying : {A : Type 0} → Machine → (A → Machine) → Asked A → Type 0
Carrying o f (refused why m) = Same o m
Carrying o f (given a) = Same o (f a)

keep_ask : (o m : Machine) (why : Reason) (b : Bool) {B : Type 0} (rest : Asked B) → Same o m → Keeping o rest → Keeping o (ask m why b >> rest)
keep_ask o m why true rest k h = h
keep_ask o m why false rest k h = inl k

keep_if : (o : Machine) {B : Type 0} (b : Bool) (x y : Asked B) → Keeping o x → Keeping o y → Keeping o (if b then x else y)
keep_if o true x y p q = p
keep_if o false x y p q = q

keep_carried : (o : Machine) {A B : Type 0} (f : A → Machine) (a : Asked A) (g : A → Asked B) → Carrying o f a → ((x : A) → Same o (f x) → Keeping o (g x)) → Keeping o (a >>= g)
keep_carried o f (refused why m) g c h = inl c
keep_carried o f (given x) g c h = h x c

carry_ask : (o m : Machine) (why : Reason) (b : Bool) {B : Type 0} (f : B → Machine) (rest : Asked B) → Same o m → Carrying o f rest → Carrying o f (ask m why b >> rest)
carry_ask o m why true f rest k h = h
carry_ask o m why false f rest k h = k

carry_on : (o : Machine) {A B : Type 0} (f : A → Machine) (a : Asked A) (f' : B → Machine) (g : A → Asked B) → Carrying o f a → ((x : A) → Same o (f x) → Carrying o f' (g x)) → Carrying o f' (a >>= g)
carry_on o f (refused why m) f' g c h = c
carry_on o f (given x) f' g c h = h x c

found_carries : (o m : Machine) (f : Found) → Same o m → Carrying o (λ _. o) (ask_found m f)
found_carries o m missing k = refl
found_carries o m broken k = k
found_carries o m (hit e) k = refl

there_carries : (o m : Machine) {A : Type 0} (x : Option A) → Same o m → Carrying o (λ _. o) (ask_there m x)
there_carries o m None k = k
there_carries o m (Some e) k = refl

abbrev of_taken : Taken → Machine
of_taken t = t.machine

abbrev of_argument : Argument → Machine
of_argument a = a.machine

-- the words by their groups

module _ (o m : Machine) (k : Same o m) where
  replaced_keeps : (n : ℕ) (xs : List ℕ) → Keeping o (replaced n xs m)
  replaced_keeps n xs = search keep_ask

  cells_keep : (w : Kernel.CellsWord) → Keeping o (do_cells w m)
  cells_keep (Kernel.leaves f) = search keep_ask
  cells_keep (Kernel.one f) = search keep_ask
  cells_keep (Kernel.two f) = search keep_ask
  cells_keep (Kernel.three f) = search keep_ask
  cells_keep (Kernel.divide f) = search keep_ask
  cells_keep Kernel.scale = search keep_ask
  cells_keep Kernel.pick = search keep_ask
  cells_keep Kernel.roll = search keep_ask

  space_keep : (w : Kernel.SpaceWord) → Keeping o (do_space w m)
  space_keep (Kernel.fetches n) = search keep_ask
  space_keep (Kernel.stores n) = search keep_ask
  space_keep (Kernel.appends n) = search keep_ask
  space_keep Kernel.add_to = search keep_ask
  space_keep Kernel.move = search keep_ask
  space_keep Kernel.fill = search keep_ask
  space_keep Kernel.allot = search keep_ask
  space_keep (Kernel.set_base n) = tt

  typing_keep : (w : Kernel.TypingWord) → Keeping o (do_typing w m)
  typing_keep Kernel.dot = search keep_ask
  typing_keep Kernel.u_dot = search keep_ask
  typing_keep Kernel.emit = search keep_ask
  typing_keep Kernel.type = search keep_ask
  typing_keep Kernel.cr = tt
  typing_keep Kernel.spaces = search keep_ask

  defining_keep : (w : Kernel.DefiningWord) (name : List ℕ) (e : ℕ) → Keeping o (do_defining w name e m)
  defining_keep Kernel.colon name e = search keep_ask
  defining_keep Kernel.semicolon name e = search keep_ask
  defining_keep Kernel.create name e = search keep_ask
  defining_keep Kernel.variable name e = search keep_ask
  defining_keep Kernel.constant name e = search keep_ask
  defining_keep Kernel.vocabulary name e = search keep_ask
  defining_keep Kernel.definitions name e = tt
  defining_keep Kernel.immediate name e = tt
  defining_keep Kernel.forget name e = search keep_ask

  compiling_keep : (w : Kernel.CompilingWord) (e : ℕ) (text : List ℕ) → Keeping o (do_compiling w e text m)
  compiling_keep (Kernel.compiles b) e text = tt
  compiling_keep Kernel.literal e text = search keep_ask
  compiling_keep Kernel.bracket_tick e text = search keep_ask
  compiling_keep Kernel.bracket_compile e text = search keep_ask
  compiling_keep Kernel.does e text = search keep_ask
  compiling_keep Kernel.if_c e text = search keep_ask
  compiling_keep Kernel.else_c e text = search keep_ask
  compiling_keep Kernel.then_c e text = search keep_ask
  compiling_keep Kernel.begin_c e text = search keep_ask
  compiling_keep Kernel.while_c e text = search keep_ask
  compiling_keep Kernel.repeat_c e text = search keep_ask
  compiling_keep Kernel.until_c e text = search keep_ask
  compiling_keep Kernel.do_c e text = search keep_ask
  compiling_keep (Kernel.loop_c n) e text = search keep_ask
  compiling_keep Kernel.quote_c e text = search keep_ask

  returns_keep : (w : Kernel.ReturnsWord) → Keeping o (do_returns w m)
  returns_keep Kernel.exit = search keep_ask
  returns_keep Kernel.to_r = search keep_ask
  returns_keep Kernel.from_r = search keep_ask
  returns_keep (Kernel.copy_at n) = search keep_ask
  returns_keep Kernel.leave = search keep_ask

  inlines_keep : (w : Kernel.InlineWord) → Keeping o (do_inline w m)
  inlines_keep Kernel.lit = search keep_ask
  inlines_keep Kernel.branch = search keep_ask
  inlines_keep Kernel.branch_if_zero = search keep_ask
  inlines_keep Kernel.do_r = search keep_ask
  inlines_keep Kernel.loop_r = search keep_ask
  inlines_keep Kernel.plus_loop_r = search keep_ask
  inlines_keep Kernel.semicolon_code = search keep_ask
  inlines_keep Kernel.type_text = search keep_ask
  inlines_keep Kernel.compile = search keep_ask

  -- an updated buffer is written out, or a question of the store answered by a no

  abbrev Written : Asked Machine → Type 0
  Written (refused why m') = Same o m'
  Written (given m') = Same o m' ⊎ Saved o m'

  written_ask : (why : Reason) (b : Bool) (rest : Asked Machine) → Written rest → Written (ask m why b >> rest)
  written_ask why true rest h = h
  written_ask why false rest h = k

  saved_with : (u : Bool) (h : Option ℕ) → m.buffer.updated ≡ u → m.buffer.held ≡ h → Written (if u then elim h [ None ↦ given m | Some n ↦ Blocks.written_to n m ] else given m)
  saved_with false h p q = inl k
  saved_with true None p q = inl k
  saved_with true (Some n) p q =
      let was : m.buffer ≡ record { held = Some n; updated = true } = λ i. record { held = q i; updated = p i } in
      let done : Written (given (with_blocks (Some n) false (written m.store n (buffer_of m)) m)) =
      inr (n, ap (λ (l : Lasting). l.buffer) (sym k) ∙ was, ap (written_out n) k) in
      search (written_ask, done)

  saved_writes : Written (saved m)
  saved_writes = saved_with m.buffer.updated m.buffer.held refl refl

  keep_written : {B : Type 0} (a : Asked Machine) (g : Machine → Asked B) → Written a → ((m' : Machine) → Same o m' ⊎ Saved o m' → Keeping o (g m')) → Keeping o (a >>= g)
  keep_written (refused why m') g w h = inl w
  keep_written (given m') g w h = h m' w

  -- the read is asked behind the write
  read_ask : (m' : Machine) (why : Reason) (b : Bool) (rest : Asked Machine) → Same o m' ⊎ Saved o m' → Keeping o rest → Keeping o (ask m' why b >> rest)
  read_ask m' why true rest s h = h
  read_ask m' why false rest s h = s

  brought_keeps : (n : ℕ) → Keeping o (brought n m)
  brought_keeps n =
      keep_if o (Blocks.is_held n m) (given m) (saved m >>= Blocks.read_from n) tt
      (keep_written (saved m) (Blocks.read_from n) saved_writes (λ m' s. read_ask m' NoBlock (ltb n m'.store.count) (given (with_blocks (Some n) false m'.store (stored 33024 (block m'.store n) m'))) s tt))

  keep_quiet : {A B : Type 0} (a : Asked A) (g : A → Asked B) → Keeping o a → ((x : A) → Keeping o (g x)) → Keeping o (a >>= g)
  keep_quiet (refused why m') g c h = c
  keep_quiet (given x) g c h = h x

  flush_keeps : Keeping o (do_blocks Kernel.flush m)
  flush_keeps = keep_written (saved m) (λ m'. quietly (with_blocks None false m'.store m')) saved_writes (λ _ _. tt)

  update_keeps : (h : Option ℕ) → Keeping o (elim h [ None ↦ quietly m | Some n ↦ (ask m NotWritable m.store.writable >> quietly (with_blocks (Some n) true m.store m)) ])
  update_keeps None = tt
  update_keeps (Some n) = search keep_ask

  block_keeps : Keeping o (do_blocks Kernel.block m)
  block_keeps =
      keep_ask o m StackUnderflow (has_cells 1 m) (brought (nth 0 m) m >>= λ m'. quietly (pushed 33024 (popped 1 m'))) k
      (keep_quiet (brought (nth 0 m) m) (λ m'. quietly (pushed 33024 (popped 1 m'))) (brought_keeps (nth 0 m)) (λ _. tt))

  blocks_keep : (w : Kernel.BlocksWord) → Keeping o (do_blocks w m)
  blocks_keep Kernel.block = block_keeps
  blocks_keep Kernel.update = update_keeps m.buffer.held
  blocks_keep Kernel.flush = flush_keeps
  blocks_keep Kernel.load = search keep_ask

  -- a kernel word

  performs : (again : ℕ → Machine → Asked After) → ((t : ℕ) (m' : Machine) → Same o m' → Keeping o (again t m')) → (w : Action) (a : Argument) → Keeping o (perform again w a m)
  unfolding perform
  performs again h (Kernel.cells w) a = cells_keep w
  performs again h (Kernel.space w) a = space_keep w
  performs again h (Kernel.typing w) a = typing_keep w
  performs again h (Kernel.blocks w) a = blocks_keep w
  performs again h (Kernel.defining w) a = defining_keep w a.bytes a.entry
  performs again h (Kernel.compiling w) a = compiling_keep w a.entry a.bytes
  performs again h (Kernel.returns w) a = returns_keep w
  performs again h (Kernel.inlines w) a = inlines_keep w
  performs again h Kernel.execute a =
      keep_ask o m StackUnderflow (has_cells 1 m) (again (nth 0 m) (popped 1 m)) k (h (nth 0 m) (popped 1 m) k)
  performs again h Kernel.tick a = search keep_ask
  performs again h Kernel.to_body a = search keep_ask
  performs again h Kernel.comment a = tt
  performs again h Kernel.abort a = inl k

  asked_keeps : (qs : List Asks) → Keeping o (all_asked qs m)
  asked_keeps [] = tt
  asked_keeps (Kernel.has_open ∷ qs) = search (keep_ask, asked_keeps qs)
  asked_keeps (Kernel.none_open ∷ qs) = search (keep_ask, asked_keeps qs)
  asked_keeps (Kernel.ip_zero ∷ qs) = search (keep_ask, asked_keeps qs)
  asked_keeps (Kernel.ip_set ∷ qs) = search (keep_ask, asked_keeps qs)

  -- what a word takes

  name_carries : Carrying o of_taken (take_name m)
  name_carries = search carry_ask

  text_carries : (x : Option (List ℕ)) → Carrying o of_taken (elim x [ None ↦ refused NothingFollows m | Some bs ↦ given (record { machine = reading_on (offset m + length bs + 1) m.text.source.word m; bytes = bs }) ])
  text_carries None = k
  text_carries (Some bs) = k

  takes_carry : (t : Takes) → Carrying o of_argument (taken t m)
  unfolding taken
  takes_carry Kernel.nothing = k
  takes_carry Kernel.a_name = carry_on o of_taken (take_name m) of_argument _ name_carries (λ t s. s)
  takes_carry Kernel.a_word =
      carry_on o of_taken (take_name m) of_argument _ name_carries
      (λ t s. carry_on o (λ _. o) (ask_found t.machine (searched (dict_of m) t.bytes)) of_argument _ (found_carries o t.machine _ s)
      (λ found _. carry_on o (λ _. o) (ask_there t.machine found) of_argument _ (there_carries o t.machine found s) (λ _ _. s)))
  takes_carry Kernel.a_forgettable =
      carry_on o of_taken (take_name m) of_argument _ name_carries
      (λ t s. carry_on o (λ _. o) (ask_found t.machine (search_in m.low m.order.current t.bytes)) of_argument _ (found_carries o t.machine _ s)
      (λ found _. carry_on o (λ _. o) (ask_there t.machine found) of_argument _ (there_carries o t.machine found s) (λ w _. search (carry_ask, s))))
  takes_carry Kernel.to_paren = carry_on o of_taken (take_to 41 1024 m) of_argument _ (text_carries _) (λ t s. s)
  takes_carry Kernel.to_quote = carry_on o of_taken (take_to 34 255 m) of_argument _ (text_carries _) (λ t s. s)

  other_keeps : (code t : ℕ) → Keeping o (Words.other_word code t m)
  other_keeps code t =
      keep_if o (eqb code 201) _ _ (search keep_ask)
      (keep_if o (eqb code 202) _ _ (search keep_ask)
      (keep_if o (eqb code 203) _ _ (search keep_ask)
      (keep_if o (eqb code 204) _ _ (search keep_ask)
      (keep_if o (eqb code 205) _ _ (search keep_ask) (inl k)))))

kernel_keeps : (o m : Machine) → Same o m → (again : ℕ → Machine → Asked After) → ((t : ℕ) (m' : Machine) → Same o m' → Keeping o (again t m')) → (r : Row) → Keeping o (do_kernel again r m)
unfolding do_kernel
kernel_keeps o m k again h r =
    keep_carried o of_argument (taken r.takes m) _ (takes_carry o m k r.takes)
    (λ a s. keep_quiet o a.machine s (all_asked r.asks a.machine) _ (asked_keeps o a.machine s r.asks) (λ _. performs o a.machine s again h r.action a))

execute_keeps : (depth : ℕ) (o : Machine) (t : ℕ) (m : Machine) → Same o m → Keeping o (execute_within depth t m)
unfolding execute_within
execute_keeps zero o t m k = inl k
execute_keeps (suc depth) o t m k =
    let code = cell_at m.low t in
    let word : Asked After = if leb 1 code && leb code 105 then do_kernel (execute_within depth) (Words.row_of code) m else Words.other_word code t m in
    keep_ask o m BadToken (in_dictionary t 2 m) word k
    (keep_if o (leb 1 code && leb code 105) (do_kernel (execute_within depth) (Words.row_of code) m) (Words.other_word code t m)
    (kernel_keeps o m k (execute_within depth) (λ t m. execute_keeps depth o t m) (Words.row_of code)) (other_keeps o m k code t))

executed : (o : Machine) (t : ℕ) (m : Machine) → Same o m → Keeping o (execute t m)
unfolding execute
executed o t m k = execute_keeps (suc (length m.stacks.cells)) o t m k

-- a step

module _ (o m : Machine) (k : Same o m) where
  acted_keeps : (compiling : Bool) (w : Step.Word) → Keeping o (Step.acted compiling w m)
  acted_keeps false (Step.immediate t) = executed o t m k
  acted_keeps false (Step.plain t) = executed o t m k
  acted_keeps false (Step.number n) = search keep_ask
  acted_keeps true (Step.immediate t) = executed o t m k
  acted_keeps true (Step.plain t) = search keep_ask
  acted_keeps true (Step.number n) = search keep_ask

  word_carries : (bytes : List ℕ) (found : Option ℕ) → Carrying o (λ _. o) (Step.word_of bytes found m)
  word_carries bytes (Some e) = refl
  word_carries bytes None =
      carry_on o (λ _. o) (ask_there m (number_in (base m) bytes)) (λ _. o) _ (there_carries o m (number_in (base m) bytes) k) (λ _ _. refl)

interpreted_keeps : (o : Machine) (t : Taken) → Same o t.machine → Keeping o (Step.interpreted t)
interpreted_keeps o t k =
    let m = t.machine in
    let rest : Asked After =
    ask_found m (searched (dict_of m) t.bytes) >>= λ found. Step.word_of t.bytes found m >>= λ word. Step.acted m.flow.compiling word m in
    keep_ask o m BadName (is_name t.bytes) rest k
    (keep_carried o (λ _. o) (ask_found m (searched (dict_of m) t.bytes)) _ (found_carries o m (searched (dict_of m) t.bytes) k)
    (λ found _. keep_carried o (λ _. o) (Step.word_of t.bytes found m) _ (word_carries o m k t.bytes found) (λ word _. acted_keeps o m k m.flow.compiling word)))

abbrev Failing : Machine → Outcome → Type 0
Failing o (Step.went a) = Unit {0}
Failing o (Step.finished m) = Unit {0}
Failing o (Step.failed why m) = Same o m ⊎ Saved o m

failing : (o : Machine) (a : Asked After) → Keeping o a → Failing o (Step.outcome a)
failing o (refused why m) k = k
failing o (given a) k = tt

failing_if : (o : Machine) (b : Bool) (x y : Outcome) → Failing o x → Failing o y → Failing o (if b then x else y)
failing_if o true x y p q = p
failing_if o false x y p q = q

ended_fails : (o m : Machine) (ls : List Position) → Failing o (Step.ended ls m)
ended_fails o m [] = tt
ended_fails o m (l ∷ ls) = tt

step_fails : (m : Machine) → Failing m (step m)
unfolding step
step_fails m =
    failing_if m (eqb (ip m) 0) (Step.from_text m) (Step.outcome (Step.from_tokens m))
    (failing_if m (Step.needs_block m) _ _
    (failing m (Step.bringing m) (keep_quiet m m refl (brought (blk m) m) quietly (brought_keeps m m refl (blk m)) (λ _. tt)))
    (failing_if m (no_word_left m) _ _ (ended_fails m m m.text.loads) (failing m (Step.interpreted (next_word m)) (interpreted_keeps m (next_word m) refl))))
    (failing m (Step.from_tokens m) (keep_ask m m BadToken (has_inline m) (execute (inline m) (past m)) refl (executed m (inline m) (past m) refl)))

-- and what a fault leaves

abbrev dict_left : Lasting → Dict
dict_left l =
    given_up (record { low = l.low; here = 32768 + length l.high; newest = l.names.newest; voc_link = l.names.voclink; context = l.order.context; current = l.order.current; opened = l.names.opened })

left : (m m' : Machine) → Same m m' ⊎ Saved m m' → Keeps m (cleared m')
left m m' (inl k) = record {
  dictionary = ap dict_left k;
  space = λ i. (k i).high;
  line = λ i. (k i).line;
  blocks = inl ((λ i. (k i).store), (λ i. (k i).buffer));
}
left m m' (inr (n, was, k)) = record {
  dictionary = ap dict_left k;
  space = λ i. (k i).high;
  line = λ i. (k i).line;
  blocks = inr (n, was, (λ i. (k i).store), (λ i. (k i).buffer));
}

pub fault_keeps : FaultKeeps
fault_keeps m m' why e = left m m' (subst (Failing m) e (step_fails m))
