-- Of every layout all devices are read, or an odd channel is found: spot after spot below its bound.
use Rattle.std.proofs.Common.{◌≡◌, ℕ, zero, suc, ◌<◌, Bool, true, false, cond, ◌&&◌, eqb, ◌⊎◌, List, [], ◌∷◌, ◌++◌, length, get_or, sym, refl, ap, ◌∙◌, subst, inl, inr, arith}
use Rattle.std.specs.List.{ContainsAt as In, AllByRecursion}
use Rattle.std.proofs.lemmas.List.{append-nil, append_assoc}
use Rattle.std.proofs.ByRecursion.{All-append, all-has, All-get_or, has_append_left, has_append_right, has_get_or}
use Rattle.std.proofs.lemmas.Bool.{cases_Bool, cases_eq, and_parts, and_from, eq-eqb, ne_eqb, eqb-true, not-true, both_ways}
use Rattle.layout.specs.Layout.{Drawing, drawn}
use Rattle.nets.specs.Nets.{Technology, wire, Spot, on, Beside, right, left, below, above, Way, stays, along, Netted}
use Rattle.nets.proofs.Ways.{way-starts, way-ends}
use Rattle.nets.proofs.Bounds.{BelowAll, drawn_bound}
use Rattle.nets.proofs.Existence.{bounded-nets}
use Rattle.devices.specs.declared.border.Border.{Border}
use Rattle.devices.specs.declared.direction.Direction.{Direction}
use Rattle.devices.specs.declared.direction.Direction.TheVariants.{Right, Left, Below, Above}
use Rattle.devices.specs.declared.terminal.Terminal.{Terminal}
use Rattle.devices.specs.declared.terminal.Terminals.{Terminals}
use Rattle.devices.specs.declared.terminal.Terminals.TheVariants.{Isolated, One, Two, Many}
use Rattle.devices.specs.Channels.{channel, spot_of, Under, stays as rests, along as goes, Earlier}
use Rattle.devices.specs.Ends.{Side}
use Rattle.devices.specs.Borders.{channel_x, channel_y, wire_x, wire_y}
use Rattle.devices.specs.Terminals.{Sums, with_one}
use Rattle.devices.specs.Readings.{terminal_spot, Judged}
use Rattle.devices.specs.Laws.{Device, over, Read, AllRead, Odd, AllOrOdd}
use Rattle.devices.proofs.Channels.{plain, on-plain, under-way, way-under, under-ends, crossed-layer}
use Rattle.devices.proofs.Orders.{earlier-none}
use Rattle.devices.proofs.Terminals.{terminal_of, sums-other, sums-more}
use Rattle.devices.proofs.Judgements.{border-spot, Lists, judged}
use Rattle.devices.proofs.Borders.{toward, beside_at}

-- what the borders of a channel come to

tally_on : (r : ℕ) (bs cs : List Border) (t : Terminals) → Sums bs r t → (u : Terminals) × Sums (bs ++ cs) r u
tally_on r bs [] t h = (t, subst (λ l. Sums l r t) (sym (append-nil bs)) h)
tally_on r bs (c ∷ cs) t h =
    let more : (u : Terminals) × Sums (bs ++ c ∷ []) r u = elim (cases_eq c.channel r) [
      | inl e ↦ (with_one t (terminal_of c), sums-more bs r c e t h)
      | inr n ↦ (t, sums-other bs r c n t h)
    ] in
    let p = tally_on r (bs ++ c ∷ []) cs more.0 more.1 in
    (p.0, subst (λ l. Sums l r p.0) (append_assoc bs (c ∷ []) cs) p.1)

tally : (r : ℕ) (bs : List Border) → (t : Terminals) × Sums bs r t
tally r bs = tally_on r [] bs Isolated (λ b h. absurd (omega (arith, h.1)))

-- lists over the squares below a bound

abbrev in_column : {X : Type 0} → (ℕ → ℕ → List X) → (x n : ℕ) → List X
in_column g x zero = []
in_column g x (suc n) = g x n ++ in_column g x n

abbrev in_field : {X : Type 0} → (ℕ → ℕ → List X) → (m n : ℕ) → List X
in_field g zero n = []
in_field g (suc m) n = in_column g m n ++ in_field g m n

module _ {X : Type 0} (g : ℕ → ℕ → List X) where
  all-column : (P : X → Type 0) → ((x y : ℕ) → AllByRecursion P (g x y)) → (x n : ℕ) → AllByRecursion P (in_column g x n)
  all-column P h x zero = tt
  all-column P h x (suc n) = All-append P (g x n) (in_column g x n) (h x n) (all-column P h x n)

  all-field : (P : X → Type 0) → ((x y : ℕ) → AllByRecursion P (g x y)) → (m n : ℕ) → AllByRecursion P (in_field g m n)
  all-field P h zero n = tt
  all-field P h (suc m) n = All-append P (in_column g m n) (in_field g m n) (all-column P h m n) (all-field P h m n)

  has-column : (x y n : ℕ) (b : X) → y < n → In (g x y) b → In (in_column g x n) b
  has-column x y zero b l h = absurd (omega arith)
  has-column x y (suc n) b l h =
      elim (cases_eq y n) [
        | inl e ↦ has_append_left (g x n) (in_column g x n) b (subst (λ v. In (g x v) b) e h)
        | inr ne ↦ has_append_right (g x n) (in_column g x n) b (has-column x y n b (omega arith) h)
      ]

  has-field : (x y m n : ℕ) (b : X) → x < m → y < n → In (g x y) b → In (in_field g m n) b
  has-field x y zero n b k l h = absurd (omega arith)
  has-field x y (suc m) n b k l h =
      elim (cases_eq x m) [
        | inl e ↦ has_append_left (in_column g m n) (in_field g m n) b (subst (λ v. In (in_column g v n) b) e (has-column x y n b l h))
        | inr ne ↦ has_append_right (in_column g m n) (in_field g m n) b (has-field x y m n b (omega arith) l h)
      ]

abbrev border_if : Bool → Border → List Border
border_if t b = cond t (b ∷ []) []

all_if : (P : Border → Type 0) (t : Bool) (b : Border) → (t ≡ true → P b) → AllByRecursion P (border_if t b)
all_if P true b h = (h refl, tt)
all_if P false b h = tt

has_if : (t : Bool) (b : Border) → t ≡ true → In (border_if t b) b
has_if t b e = subst (λ v. In (border_if v b) b) (sym e) (has_get_or (b ∷ []) 0 b (omega arith))

-- the gate over a channel

module _ (k : Technology) (d : Drawing) where
  crossed-gate : (e : Spot) → on (wire k d) e ≡ true → e.layer ≡ k.crossed → k.gate ≡ k.crossed → ⊥
  unfolding on wire
  crossed-gate e h l g =
      let p = and_parts (k.carries e.layer) _ h in
      let q = and_parts (d e.layer e.x e.y) _ p.1 in
      let n = not-true (eqb e.layer k.crossed && d k.gate e.x e.y) q.1 in
      both_ways (eqb e.layer k.crossed && d k.gate e.x e.y) n
      (and_from (eqb e.layer k.crossed) (d k.gate e.x e.y) (eq-eqb e.layer k.crossed l) (subst (λ v. d v e.x e.y ≡ true) (l ∙ sym g) q.0))

  beside-layer : (a b : Spot) → Beside a b → a.layer ≡ b.layer
  beside-layer a b (right l x y) = refl
  beside-layer a b (left l x y) = refl
  beside-layer a b (below l x y) = refl
  beside-layer a b (above l x y) = refl

  beside-over : (a b : Spot) → Beside a b → Beside (over k a) (over k b)
  beside-over a b (right l x y) = right k.gate x y
  beside-over a b (left l x y) = left k.gate x y
  beside-over a b (below l x y) = below k.gate x y
  beside-over a b (above l x y) = above k.gate x y

  side-apart : (a e : Spot) → Side k d a e → k.gate ≡ k.crossed → ⊥
  side-apart a e s = crossed-gate e s.wired (sym (beside-layer s.from e s.beside) ∙ crossed-layer k d s.from (under-ends k d a s.from s.under))

  module _ (carries : k.carries k.gate ≡ true) (apart : k.gate ≡ k.crossed → ⊥) where
    over-wire : (s : Spot) → on (channel k d) s ≡ true → on (wire k d) (over k s) ≡ true
    unfolding on wire channel
    over-wire s h =
        let p = and_parts (d k.crossed s.x s.y) (d k.gate s.x s.y) (and_parts (eqb s.layer k.crossed) _ h).1 in
        and_from (k.carries k.gate) _ carries (and_from (d k.gate s.x s.y) _ p.1 (rw (ne_eqb k.gate k.crossed apart) refl))

    over-way : (a b : Spot) → Under k d a b → Way k d (over k a) (over k b)
    over-way a b (rests h) = stays (over-wire a h)
    over-way a b (goes c e u s h) = along (over k c) (over k e) (over-way a c u) (beside-over c e s) (over-wire e h)

module _ (k : Technology) (d : Drawing) (net : Spot → ℕ) (netted : Netted k d net) (carries : k.carries k.gate ≡ true) (bound : ℕ) (low : BelowAll d bound) where
  way-net : (a b : Spot) → Way k d a b → net a ≡ net b
  way-net a b w = netted.same a b (way-starts k d a b w) (way-ends k d a b w) w

  channel-low : BelowAll (channel k d) bound
  unfolding channel
  channel-low l x y h =
      let p = and_parts (eqb l k.crossed) _ h in
      let q = low k.crossed x y (and_parts (d k.crossed x y) (d k.gate x y) p.1).0 in
      (omega (arith, q.0, eqb-true l k.crossed p.0), q.1, q.2)

  on-low : (s : Spot) → on (channel k d) s ≡ true → (s.x < bound) × (s.y < bound)
  unfolding on
  on-low s h = let p = channel-low s.layer s.x s.y h in (p.1, p.2)

  -- numbers for channels
  names : (f : Spot → ℕ) × Netted (plain k) (channel k d) f
  names = bounded-nets (plain k) (channel k d) bound channel-low

  abbrev name : Spot → ℕ
  name = names.0

  name-same : (a b : Spot) → Under k d a b → name a ≡ name b
  name-same a b u =
      let w = under-way k d a b u in
      names.1.same a b (way-starts (plain k) (channel k d) a b w) (way-ends (plain k) (channel k d) a b w) w

  name-apart : (a b : Spot) → on (channel k d) a ≡ true → on (channel k d) b ≡ true → name a ≡ name b → Under k d a b
  name-apart a b p q e = way-under k d a b (names.1.apart a b (on-plain k d a ∙ p) (on-plain k d b ∙ q) e)

  -- the borders of all channels
  abbrev under_at : Direction → ℕ → ℕ → Spot
  under_at v x y = spot_of k (channel_x v x) (channel_y v y)

  abbrev wire-at : Direction → ℕ → ℕ → Spot
  wire-at v x y = spot_of k (wire_x v x) (wire_y v y)

  abbrev border-at : Direction → ℕ → ℕ → Border
  border-at v x y = record { channel = name (under_at v x y); net = net (wire-at v x y); x = wire_x v x; y = wire_y v y }

  abbrev test : Direction → ℕ → ℕ → Bool
  test v x y = on (channel k d) (under_at v x y) && on (wire k d) (wire-at v x y)

  abbrev border : Direction → ℕ → ℕ → List Border
  border v x y = border_if (test v x y) (border-at v x y)

  abbrev around : ℕ → ℕ → List Border
  around x y = border Right x y ++ (border Left x y ++ (border Below x y ++ border Above x y))

  record Genuine (b : Border) : Type 0 where
    pub way : Direction
    pub x : ℕ
    pub y : ℕ
    pub under : on (channel k d) (under_at way x y) ≡ true
    pub wired : on (wire k d) (wire-at way x y) ≡ true
    pub is : b ≡ border-at way x y

  genuine : (v : Direction) (x y : ℕ) → AllByRecursion Genuine (border v x y)
  genuine v x y = all_if Genuine (test v x y) (border-at v x y) (λ h. let p = and_parts (on (channel k d) (under_at v x y)) (on (wire k d) (wire-at v x y)) h in record { way = v; x = x; y = y; under = p.0; wired = p.1; is = refl })

  all-around : (x y : ℕ) → AllByRecursion Genuine (around x y)
  all-around x y =
      All-append Genuine (border Right x y) _ (genuine Right x y) (All-append Genuine (border Left x y) _ (genuine Left x y) (All-append Genuine (border Below x y) (border Above x y) (genuine Below x y) (genuine Above x y)))

  has-around : (v : Direction) (x y : ℕ) → test v x y ≡ true → In (around x y) (border-at v x y)
  has-around Right x y h = has_append_left (border Right x y) _ _ (has_if (test Right x y) (border-at Right x y) h)
  has-around Left x y h = has_append_right (border Right x y) _ _ (has_append_left (border Left x y) _ _ (has_if (test Left x y) (border-at Left x y) h))
  has-around Below x y h =
      has_append_right (border Right x y) _ _ (has_append_right (border Left x y) _ _ (has_append_left (border Below x y) (border Above x y) _ (has_if (test Below x y) (border-at Below x y) h)))
  has-around Above x y h =
      has_append_right (border Right x y) _ _ (has_append_right (border Left x y) _ _ (has_append_right (border Below x y) (border Above x y) _ (has_if (test Above x y) (border-at Above x y) h)))

  borders : List Border
  borders = in_field around bound bound

  border-genuine : (b : Border) → In borders b → Genuine b
  unfolding borders
  border-genuine b h = all-has Genuine (in_field around bound bound) b (all-field around Genuine all-around bound bound) h

  has-border : (v : Direction) (x y : ℕ) → x < bound → y < bound → test v x y ≡ true → In borders (border-at v x y)
  unfolding borders
  has-border v x y p q h = has-field around x y bound bound (border-at v x y) p q (has-around v x y h)

  -- the upper or left one of two squares is below the bound where the one under the gate is, or the wire
  corner-low : (v : Direction) (x y : ℕ) → channel_x v x < bound → channel_y v y < bound → (x < bound) × (y < bound)
  corner-low Right x y p q = (p, q)
  corner-low Left x y p q = (omega arith, q)
  corner-low Below x y p q = (p, q)
  corner-low Above x y p q = (p, omega arith)

  border-is : (b : Border) (g : Genuine b) → border-spot k b ≡ wire-at g.way g.x g.y
  border-is b g = ap (border-spot k) g.is

  module _ (a : Spot) (there : on (channel k d) a ≡ true) where
    lists : Lists k d a (name a) borders
    lists = record {
      sound = λ b h e.
          let g = border-genuine b h in
          subst (Side k d a) (sym (border-is b g)) (record {
            from = under_at g.way g.x g.y;
            under = name-apart a (under_at g.way g.x g.y) there g.under (sym e ∙ ap (λ c. c.channel) g.is);
            beside = beside_at g.way k.crossed g.x g.y;
            wired = g.wired;
          });
      same = λ b c p q e f h.
          let u = border-genuine b p in
          let v = border-genuine c q in
          netted.apart (border-spot k b) (border-spot k c) (subst (λ s. on (wire k d) s ≡ true) (sym (border-is b u)) u.wired) (subst (λ s. on (wire k d) s ≡ true) (sym (border-is c v)) v.wired)
          (ap net (border-is b u) ∙ (ap (λ z. z.net) (sym u.is) ∙ (h ∙ (ap (λ z. z.net) v.is ∙ ap net (sym (border-is c v))))));
      apart = λ b c p q e f w.
          let u = border-genuine b p in
          let v = border-genuine c q in
          ap (λ z. z.net) u.is ∙ (ap net (sym (border-is b u)) ∙ (way-net (border-spot k b) (border-spot k c) w ∙ (ap net (border-is c v) ∙ ap (λ z. z.net) (sym v.is))));
      complete = λ e s.
          let t = toward s.from e s.beside in
          let under = under-ends k d a s.from s.under in
          let level = crossed-layer k d s.from under in
          let one : s.from ≡ under_at t.way t.x t.y = t.one ∙ ap (λ l. record { layer = l; x = channel_x t.way t.x; y = channel_y t.way t.y }) level in
          let other : e ≡ wire-at t.way t.x t.y = t.other ∙ ap (λ l. record { layer = l; x = wire_x t.way t.x; y = wire_y t.way t.y }) level in
          let here : on (channel k d) (under_at t.way t.x t.y) ≡ true = subst (λ z. on (channel k d) z ≡ true) one under in
          let wired : on (wire k d) (wire-at t.way t.x t.y) ≡ true = subst (λ z. on (wire k d) z ≡ true) other s.wired in
          let l = on-low (under_at t.way t.x t.y) here in
          let m = corner-low t.way t.x t.y l.0 l.1 in (
            border-at t.way t.x t.y,
            has-border t.way t.x t.y m.0 m.1 (and_from (on (channel k d) (under_at t.way t.x t.y)) (on (wire k d) (wire-at t.way t.x t.y)) here wired),
            ap name (sym one) ∙ sym (name-same a s.from s.under),
            subst (Way k d (wire-at t.way t.x t.y)) (sym other) (stays wired),
            λ z. earlier-none e (subst (λ v. Earlier e v) (sym other) z),
          );
    }

    gate-net : (e : Spot) → Side k d a e → (c : Spot) → Under k d a c → net (over k c) ≡ net (over k a)
    gate-net e s c u = sym (way-net (over k a) (over k c) (over-way k d carries (side-apart k d a e s) a c u))

    abbrev device : Terminal → Terminal → Device
    device s t = record { spot = a; gate = net (over k a); one = net (terminal_spot k s); other = net (terminal_spot k t) }

    verdict : (t : Terminals) → Judged k d a t → ((v : Device) × (v.spot ≡ a) × Read k d net v) ⊎ Odd k d net a
    verdict Isolated h = inr (there, inl h)
    verdict (One t) h = inl (
      device t t,
      refl,
      record {
        there = there;
        gate = gate-net (terminal_spot k t) h.0;
        ends = λ b s. inl (sym (way-net (terminal_spot k t) b (h.1 b s).way));
        has_one = (terminal_spot k t, h.0, refl);
        has_other = (terminal_spot k t, h.0, refl);
      },
    )
    verdict (Two s t) h = inl (
      device s t,
      refl,
      record {
        there = there;
        gate = gate-net (terminal_spot k s) h.0;
        ends = λ b z. elim (h.3 b z) [ inl v ↦ inl (sym (way-net (terminal_spot k s) b v.way)) | inr v ↦ inr (sym (way-net (terminal_spot k t) b v.way)) ];
        has_one = (terminal_spot k s, h.0, refl);
        has_other = (terminal_spot k t, h.1, refl);
      },
    )
    verdict Many h = inr (
      there,
      inr (record {
        one = h.0;
        two = h.1;
        three = h.2;
        has_one = h.3;
        has_two = h.4;
        has_three = h.5;
        one_two = λ e. h.6 (netted.apart h.0 h.1 h.3.wired h.4.wired e);
        one_three = λ e. h.7 (netted.apart h.0 h.2 h.3.wired h.5.wired e);
        two_three = λ e. h.8 (netted.apart h.1 h.2 h.4.wired h.5.wired e);
      }),
    )

    decided : ((v : Device) × (v.spot ≡ a) × Read k d net v) ⊎ Odd k d net a
    decided = let t = tally (name a) borders in verdict t.0 (judged k d a (name a) borders lists t.0 t.1)

  module _ (none : Device) where
    abbrev spot : List Device → ℕ → Spot
    spot vs i = (get_or vs i none).spot

    -- the channels of these spots are read
    record Got (ss : List Spot) (vs : List Device) : Type 0 where
      pub each : AllByRecursion (Read k d net) vs
      pub once : (i j : ℕ) → i < length vs → j < length vs → Under k d (spot vs i) (spot vs j) → i ≡ j
      pub all : AllByRecursion (λ s. on (channel k d) s ≡ true → (i : ℕ) × (i < length vs) × Under k d (spot vs i) s) ss

    seek : (n : ℕ) (vs : List Device) → ((i : ℕ) × (i < length vs) × (name (spot vs i) ≡ n)) ⊎ ((i : ℕ) → i < length vs → name (spot vs i) ≡ n → ⊥)
    seek n [] = inr (λ i h. absurd (omega arith))
    seek n (v ∷ vs) =
        elim (cases_eq (name v.spot) n) [
          | inl e ↦ inl (0, omega arith, e)
          | inr ne ↦ elim (seek n vs) [
            | inl p ↦ inl (suc p.0, omega (arith, p.1), p.2)
            | inr m ↦ inr (missing ne m)
          ]
        ]
      where
        missing : (name v.spot ≡ n → ⊥) → ((i : ℕ) → i < length vs → name (spot vs i) ≡ n → ⊥) → (i : ℕ) → i < length (v ∷ vs) → name (spot (v ∷ vs) i) ≡ n → ⊥
        missing ne m zero h e = ne e
        missing ne m (suc i) h e = m i (omega arith) e

    module _ (s : Spot) (ss : List Spot) (vs : List Device) (g : Got ss vs) where
      got-skip : (on (channel k d) s ≡ true → (i : ℕ) × (i < length vs) × Under k d (spot vs i) s) → Got (s ∷ ss) vs
      got-skip h = record { each = g.each; once = g.once; all = (h, g.all) }

      module _ (there : on (channel k d) s ≡ true) (v : Device) (is : v.spot ≡ s) (read : Read k d net v) (fresh : (i : ℕ) → i < length vs → name (spot vs i) ≡ name s → ⊥) where
        new-once : (i j : ℕ) → i < length (v ∷ vs) → j < length (v ∷ vs) → Under k d (spot (v ∷ vs) i) (spot (v ∷ vs) j) → i ≡ j
        new-once zero zero p q u = refl
        new-once zero (suc j) p q u = absurd (fresh j (omega arith) (sym (name-same v.spot (spot vs j) u) ∙ ap name is))
        new-once (suc i) zero p q u = absurd (fresh i (omega arith) (name-same (spot vs i) v.spot u ∙ ap name is))
        new-once (suc i) (suc j) p q u = ap suc (g.once i j (omega arith) (omega arith) u)

        older : (ts : List Spot) → AllByRecursion (λ t. on (channel k d) t ≡ true → (i : ℕ) × (i < length vs) × Under k d (spot vs i) t) ts → AllByRecursion (λ t. on (channel k d) t ≡ true → (i : ℕ) × (i < length (v ∷ vs)) × Under k d (spot (v ∷ vs) i) t) ts
        older [] h = tt
        older (t ∷ ts) h = ((λ e. let p = h.0 e in (suc p.0, omega (arith, p.1), p.2)), older ts h.1)

        got-more : Got (s ∷ ss) (v ∷ vs)
        got-more = record {
          each = (read, g.each);
          once = new-once;
          all = ((λ e. (0, omega arith, subst (λ z. Under k d z s) (sym is) (rests there))), older ss g.all);
        }

    walk : (ss : List Spot) → ((vs : List Device) × Got ss vs) ⊎ ((s : Spot) × Odd k d net s)
    walk [] = inl ([], record { each = tt; once = λ i j p q u. absurd (omega arith); all = tt })
    walk (s ∷ ss) =
        elim (walk ss) [
          | inr o ↦ inr o
          | inl p ↦ elim (cases_Bool (on (channel k d) s)) [
            | inr off ↦ inl (p.0, got-skip s ss p.0 p.1 (λ h. absurd (both_ways (on (channel k d) s) off h)))
            | inl there ↦ elim (seek (name s) p.0) [
              | inl q ↦ inl (p.0, got-skip s ss p.0 p.1 (λ h. (q.0, q.1, name-apart (spot p.0 q.0) s (All-get_or (Read k d net) p.0 q.0 none q.1 p.1.each).there there q.2)))
              | inr fresh ↦ elim (decided s there) [
                | inl v ↦ inl (v.0 ∷ p.0, got-more s ss p.0 p.1 there v.0 v.1 v.2 fresh)
                | inr o ↦ inr (s, o)
              ]
            ]
          ]
        ]

    abbrev one_spot : ℕ → ℕ → List Spot
    one_spot x y = spot_of k x y ∷ []

    has-spot : (a : Spot) → on (channel k d) a ≡ true → In (in_field one_spot bound bound) a
    has-spot a h =
        let l = on-low a h in
        let e : spot_of k a.x a.y ≡ a = λ i. record { layer = sym (crossed-layer k d a h) i; x = a.x; y = a.y } in
        subst (In (in_field one_spot bound bound)) e (has-field one_spot a.x a.y bound bound (spot_of k a.x a.y) l.0 l.1 (has_get_or (one_spot a.x a.y) 0 (spot_of k a.x a.y) (omega arith)))

    pub bounded-all : ((vs : List Device) × AllRead k d net vs none) ⊎ ((s : Spot) × Odd k d net s)
    bounded-all =
        elim (walk (in_field one_spot bound bound)) [
          | inr o ↦ inr o
          | inl p ↦ inl (
            p.0,
            record {
              each = λ i h. All-get_or (Read k d net) p.0 i none h p.1.each;
              once = p.1.once;
              all = λ a h. all-has (λ s. on (channel k d) s ≡ true → (i : ℕ) × (i < length p.0) × Under k d (spot p.0 i) s) (in_field one_spot bound bound) a p.1.all (has-spot a h) h;
            },
          )
        ]

pub all_or_odd : AllOrOdd
all_or_odd k bodies n a net none netted carries = let b = drawn_bound bodies n a in bounded-all k (drawn bodies n a) net netted carries b.0 b.1 none
