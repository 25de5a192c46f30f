-- The sequential history of a run: what it is for a list of entries to explain what the calls did. Over bare functions of
-- the number of a call: calls have the numbers 1, 2, 3, .., and 0 is set-up. Assumes nothing.
--     Graph, Same              jobs and waits by their keys; graphs with the same ones
--     Request                  what an operation is asked to do: the operation and its two keys
--     Right G f q a            the answer a to the request q is right in the graph G, with f nodes free
--     changed, answered        the graph after yes; after an answer
--     Event, Run               what a call did; what is seen of a run after each call
--     Op, Entry                an operation, known by the call that started it; an entry of the history
--     replayed i G h           the graph after the entries of h with points up to i, from G on
--     entries_of s h           the entries of the operation that call s started
--     latest, Began, Steps, Ends, HandsOver      the operation last started at a controller; an operation of the run; its steps,
--                              its finishing step, the call that collects it
--     Over, Running, Changed   it has finished; it runs; one of its steps has changed the graph
--     Consistent G p h         each entry is right in the graph before it, points do not fall, and an entry that changes the
--                              graph has a step of its own operation as its point and stands first there
--     One h o a j              the operation o has one entry, with the answer a and a point from its start to call j
--     History n h              h explains the first n calls
--     Seen, Behind             a wait seen in some time; a row of waits seen that leads from v to u
--     Linearizes n             there is a history of the first n calls, and a row behind each circle
use Rattle.std.specs.Prelude.{◌≡◌, ℕ, zero, suc, ◌<◌, ◌≤◌, cond, ◌⊎◌, ◌↔◌, List, [], ◌∷◌, Some, None, Option, ◌==◌, ◌≢◌, nat_le}
use Rattle.std.specs.List.{AllByRecursion}
use Rattle.nodes.specs.declared.controller.Operation.{Operation}
use Rattle.nodes.specs.declared.controller.Operation.TheVariants.{AddJob, RemoveJob, HasJob, AddWait, RemoveWait, HasWait}
use Rattle.nodes.specs.declared.controller.JobRef.{JobRef}
use Rattle.nodes.specs.declared.controller.Answer.{Answer}
use Rattle.nodes.specs.declared.controller.Answer.TheVariants.{Yes, No, Circle, Full}
use Rattle.theory.specs.Ways.{Leads}

-- ---- jobs and waits, known by their keys

pub record Graph (K : Type 0) : Type 1 where
  pub job : K → Type 0
  pub wait : K → K → Type 0

pub record Same {K : Type 0} (G H : Graph K) : Type 0 where
  pub job : (k : K) → G.job k ↔ H.job k
  pub wait : (a b : K) → G.wait a b ↔ H.wait a b

abbrev pub empty : {K : Type 0} → Graph K
empty = record { job = λ k. ⊥; wait = λ a b. ⊥ }

-- ---- the table: which answer is right, and what yes changes

pub record Request (K : Type 0) : Type 0 where
  pub operation : Operation
  pub u : K
  pub v : K

module _ {K : Type 0} where
  -- u is v, or waits lead from v to u: a wait from u to v would close a circle
  abbrev pub Closes : Graph K → K → K → Type 0
  Closes G u v = (u ≡ v) ⊎ Leads G.wait v u

  -- which answers are right, where the graph is G; how many nodes are free is looked at for full alone
  abbrev pub Right : Graph K → ℕ → Request K → Answer → Type 0
  Right G free t a =
      let u = t.u in let v = t.v in
      elim t.operation [
        | AddJob ↦ elim a [ Yes ↦ Unit {0} | No ↦ ⊥ | Circle ↦ ⊥ | Full ↦ (G.job u → ⊥) × (free < 2) ]
        | RemoveJob ↦ elim a [ Yes ↦ G.job u | No ↦ (G.job u → ⊥) | Circle ↦ ⊥ | Full ↦ ⊥ ]
        | HasJob ↦ elim a [ Yes ↦ G.job u | No ↦ (G.job u → ⊥) | Circle ↦ ⊥ | Full ↦ ⊥ ]
        | AddWait ↦ elim a [
          | Yes ↦ G.job u × G.job v × (G.wait u v ⊎ (Closes G u v → ⊥))
          | No ↦ (G.job u → ⊥) ⊎ (G.job v → ⊥)
          | Circle ↦ G.job u × G.job v × (G.wait u v → ⊥)
          | Full ↦ G.job u × G.job v × (G.wait u v → ⊥) × (free < 1)
        ]
        | RemoveWait ↦ elim a [ Yes ↦ G.job u × G.job v | No ↦ (G.job u → ⊥) ⊎ (G.job v → ⊥) | Circle ↦ ⊥ | Full ↦ ⊥ ]
        | HasWait ↦ elim a [ Yes ↦ G.wait u v | No ↦ (G.wait u v → ⊥) | Circle ↦ ⊥ | Full ↦ ⊥ ]
      ]

  -- what yes changes
  abbrev pub changed : Graph K → Request K → Graph K
  changed G t =
      let u = t.u in let v = t.v in
      elim t.operation [
        | AddJob ↦ record { job = λ k. G.job k ⊎ (k ≡ u); wait = G.wait }
        | RemoveJob ↦ record { job = λ k. G.job k × (k ≢ u); wait = λ a b. G.wait a b × (a ≢ u) × (b ≢ u) }
        | HasJob ↦ G
        | AddWait ↦ record { job = G.job; wait = λ a b. G.wait a b ⊎ ((a ≡ u) × (b ≡ v)) }
        | RemoveWait ↦ record { job = G.job; wait = λ a b. G.wait a b × ((a ≡ u) × (b ≡ v) → ⊥) }
        | HasWait ↦ G
      ]

  -- what an answer changes
  abbrev pub answered : Graph K → Request K → Answer → Graph K
  answered G t a = elim a [ Yes ↦ changed G t | No ↦ G | Circle ↦ G | Full ↦ G ]

-- ---- what is seen of a run: the calls have the numbers 1, 2, 3, ..; 0 is set-up

-- what a call did, and at which controller
pub data Event (K : Type 0) : Type 0 where
  -- a start was taken, with code and keys
  started : ℕ → Request K → Event K
  -- a step answered moved or waiting; it answered finished
  stepped : ℕ → Event K
  finished : ℕ → Event K
  -- collect handed over an answer
  collected : ℕ → Answer → Event K
  -- a refusal, or count
  other : Event K

-- after call number i: the graph; which pairs of jobs, by node and generation, have a wait that stands or is tentative; which job is in
-- the graph under which key; which two jobs the operation of a controller has found; how many nodes are free; and what collect would hand
-- over at a controller
pub record Run (K : Type 0) : Type 1 where
  pub event : ℕ → Event K
  pub graph : ℕ → Graph K
  pub present : ℕ → JobRef → JobRef → Type 0
  pub keyed : ℕ → JobRef → K → Type 0
  pub found : ℕ → ℕ → JobRef → JobRef → Type 0
  pub free : ℕ → ℕ
  pub handing : ℕ → ℕ → Option Answer

-- an operation: the number of the call that started it, its controller, its code and keys
pub record Op (K : Type 0) : Type 0 where
  pub start : ℕ
  pub by : ℕ
  pub request : Request K

pub record Entry (K : Type 0) : Type 0 where
  pub op : Op K
  pub answer : Answer
  pub point : ℕ

module _ {K : Type 0} where
  abbrev pub begins : ℕ → ℕ → Event K → Option (Op K) → Option (Op K)
  begins c i (started d t) old = cond (c == d) (Some (record { start = i; by = c; request = t })) old
  begins c i (stepped d) old = old
  begins c i (finished d) old = old
  begins c i (collected d a) old = old
  begins c i other old = old

  -- the graph after an entry
  abbrev pub after : Graph K → Entry K → Graph K
  after G e = answered G e.op.request e.answer

  -- the graph after the entries with points up to i
  abbrev pub replayed : ℕ → Graph K → List (Entry K) → Graph K
  replayed i G [] = G
  replayed i G (e ∷ h) = replayed i (cond (nat_le e.point i) (after G e) G) h

  -- the entries of the operation that call s started
  abbrev pub entries_of : ℕ → List (Entry K) → List (Entry K)
  entries_of s [] = []
  entries_of s (e ∷ h) = cond (e.op.start == s) (e ∷ entries_of s h) (entries_of s h)

module _ {K : Type 0} (r : Run K) where
  -- the operation last started at controller c, by call i
  abbrev pub latest : ℕ → ℕ → Option (Op K)
  latest c zero = None
  latest c (suc i) = begins c (suc i) (r.event (suc i)) (latest c i)

  -- o is an operation of the first n calls
  pub record Began (n : ℕ) (o : Op K) : Type 0 where
    pub first : 0 < o.start
    pub by_then : o.start ≤ n
    pub is : r.event o.start ≡ started o.by o.request

  -- call i is a step of o; its finishing step
  pub record Steps (o : Op K) (i : ℕ) : Type 0 where
    pub runs : latest o.by i ≡ Some o
    pub is : (r.event i ≡ stepped o.by) ⊎ (r.event i ≡ finished o.by)

  pub record Ends (o : Op K) (i : ℕ) : Type 0 where
    pub runs : latest o.by i ≡ Some o
    pub is : r.event i ≡ finished o.by

  -- call i hands over answer a of o
  pub record HandsOver (o : Op K) (a : Answer) (i : ℕ) : Type 0 where
    pub runs : latest o.by i ≡ Some o
    pub is : r.event i ≡ collected o.by a

  -- after n calls o has finished; it runs; one of its steps has changed the graph
  abbrev pub Over : ℕ → Op K → Type 0
  Over n o = (j : ℕ) × (j ≤ n) × Ends o j

  abbrev pub Running : ℕ → Op K → Type 0
  Running n o = Began n o × (Over n o → ⊥)

  abbrev pub Changed : ℕ → Op K → Type 0
  Changed n o = (i : ℕ) × (i < n) × Steps o (suc i) × (Same (r.graph i) (r.graph (suc i)) → ⊥)

  -- the entries are right, each in the graph that those before it give, and their points do not fall: G and p are what the
  -- entries before give, and the last point there. One that changes the graph has as its point a step of its own operation, and comes first there
  abbrev pub Consistent : Graph K → ℕ → List (Entry K) → Type 0
  Consistent G p [] = Unit {0}
  Consistent G p (e ∷ h) =
      (p ≤ e.point)
      × Right G (r.free e.point) e.op.request e.answer
      × ((Same G (after G e) → ⊥) → Steps e.op e.point × (p < e.point))
      × Consistent (after G e) e.point h

  -- exactly one entry is of operation o; it has answer a and a point from o's start to call j
  abbrev pub One : List (Entry K) → Op K → Answer → ℕ → Type 0
  One h o a j = (m : ℕ) × (o.start ≤ m) × (m ≤ j) × (entries_of o.start h ≡ record { op = o; answer = a; point = m } ∷ [])

  pub record History (n : ℕ) (h : List (Entry K)) : Type 0 where
    pub consistent : Consistent empty 0 h
    pub ended : (o : Op K) (j : ℕ) → j ≤ n → Ends o j → (a : Answer) × (r.handing j o.by ≡ Some a) × One h o a j
    pub running : (o : Op K) → Running n o → (Changed n o × One h o Yes n) ⊎ ((Changed n o → ⊥) × (entries_of o.start h ≡ []))
    pub only : AllByRecursion (λ e. Began n e.op) h
    pub graphs : (i : ℕ) → i ≤ n → Same (replayed i empty h) (r.graph i)
    pub handed : (o : Op K) (a : Answer) (i : ℕ) → i ≤ n → HandsOver o a i → One h o a i

  -- after some call from s to j the wait from a to b stood, or was tentative
  abbrev pub Seen : ℕ → ℕ → JobRef → JobRef → Type 0
  Seen s j a b = (i : ℕ) × (s ≤ i) × (i ≤ j) × r.present i a b

  -- waits seen from s to j lead from the v to the u that controller c has found in that time, jobs of the graph under the two keys asked for
  pub record Behind (q : Request K) (c s j : ℕ) : Type 0 where
    pub u : JobRef
    pub v : JobRef
    pub call : ℕ
    pub from : s ≤ call
    pub to : call ≤ j
    pub found : r.found call c u v
    pub key_u : r.keyed call u q.u
    pub key_v : r.keyed call v q.v
    pub row : Leads (Seen s j) v u

  pub record Linearizes (n : ℕ) : Type 0 where
    pub history : (h : List (Entry K)) × History n h
    pub behind : (o : Op K) (j : ℕ) → j ≤ n → Ends o j → r.handing j o.by ≡ Some Circle → (o.request.u ≢ o.request.v) → Behind o.request o.by o.start j
