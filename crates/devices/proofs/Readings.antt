-- The walk over the tiles of channels: a device for each first tile, or the first odd channel.
use Rattle.std.proofs.Common.{◌≡◌, ℕ, ◌+◌, ◌<◌, ◌≤◌, ◌⊎◌, List, [], ◌∷◌, ◌++◌, length, get_or, Some, None, sym, refl, ap, subst, inl, inr, arith}
use Rattle.std.proofs.lemmas.List.{length_push, get_or_append_left, get_or_push}
use Rattle.std.proofs.lemmas.Bool.{cases_lt, cases_eq}
use Rattle.layout.specs.Layout.{Drawing}
use Rattle.tiles.specs.declared.tile.Tile.{Tile}
use Rattle.tiles.specs.Tiles.{tile_at}
use Rattle.tiles.proofs.Tiles.{holds-within}
use Rattle.nets.specs.Nets.{Technology}
use Rattle.devices.specs.declared.terminal.Terminal.{Terminal}
use Rattle.devices.specs.declared.terminal.Terminals.{Terminals}
use Rattle.devices.specs.declared.terminal.Terminals.TheVariants.{Isolated}
use Rattle.devices.specs.declared.reading.Device.{Device}
use Rattle.devices.specs.Channels.{spot_of, Under, Earlier}
use Rattle.devices.specs.Ends.{DeviceAt, OddAt}
use Rattle.devices.specs.Pieces.{root_of}
use Rattle.devices.specs.Terminals.{ends_of}
use Rattle.devices.specs.Readings.{terminal_spot, corner, Known, device_at, device_spot, Enumerated}
use Rattle.devices.proofs.Channels.{ends-move}
use Rattle.devices.proofs.Orders.{channel-place, corner-has, corner-order, earlier-tile, root-first}
use Rattle.devices.proofs.Judgements.{judged-device, judged-odd}

-- the first n tiles are looked at
pub record Going (k : Technology) (d : Drawing) (ts : List Tile) (rs : List ℕ) (n : ℕ) (vs : List Device) : Type 0 where
  pub each : (i : ℕ) → i < length vs → DeviceAt k d (device_spot k vs i) (terminal_spot k (device_at vs i).one) (terminal_spot k (device_at vs i).other)
  pub from : (i : ℕ) → i < length vs → (c : ℕ) × (c < n) × (device_spot k vs i ≡ corner k ts c)
  pub order : (i j : ℕ) → i < j → j < length vs → Earlier (device_spot k vs i) (device_spot k vs j)
  pub all : (c : ℕ) → c < n → root_of rs c ≡ c → (i : ℕ) × (i < length vs) × (device_spot k vs i ≡ corner k ts c)

module _ (k : Technology) (d : Drawing) (ts : List Tile) (rs : List ℕ) where
  pub going-none : Going k d ts rs 0 []
  going-none = record {
    each = λ i h. absurd (omega arith);
    from = λ i h. absurd (omega arith);
    order = λ i j l h. absurd (omega arith);
    all = λ c h. absurd (omega arith);
  }

  module _ (es : List Terminals) (known : Known k d ts rs es) (n : ℕ) (vs : List Device) (old : Going k d ts rs n vs) where
    pub going-skip : (root_of rs n ≡ n → ⊥) → Going k d ts rs (n + 1) vs
    going-skip ne = record {
      each = old.each;
      from = λ i h. let p = old.from i h in (p.0, omega (arith, p.1), p.2);
      order = old.order;
      all = λ c h own. elim (cases_eq c n) [
        | inl e ↦ absurd (ne (subst (λ v. root_of rs v ≡ v) e own))
        | inr o ↦ old.all c (omega arith) own
      ];
    }

    module _ (within : n < length ts) (own : root_of rs n ≡ n) where
      pub going_more : (one other : Terminal) → ends_of (get_or es n Isolated) ≡ Some (one, other) → Going k d ts rs (n + 1) (vs ++ record { x = (tile_at ts n).left; y = (tile_at ts n).top; one = one; other = other } ∷ [])
      going_more one other e = record {
        each = λ i h. elim (place i h) [
          | inl l ↦ subst (λ u. DeviceAt k d (spot_of k u.x u.y) (terminal_spot k u.one) (terminal_spot k u.other)) (sym (old-at i l)) (old.each i l)
          | inr z ↦ subst (λ u. DeviceAt k d (spot_of k u.x u.y) (terminal_spot k u.one) (terminal_spot k u.other)) (sym (new-at i z))
              (judged-device k d (corner k ts n) (root-first k d ts rs known.gated n within own) (get_or es n Isolated) (known.judged n within own) one other e)
        ];
        from = λ i h. elim (place i h) [
          | inl l ↦ let p = old.from i l in (p.0, omega (arith, p.1), subst (λ u. spot_of k u.x u.y ≡ corner k ts p.0) (sym (old-at i l)) p.2)
          | inr z ↦ (n, omega arith, ap (λ u. spot_of k u.x u.y) (new-at i z))
        ];
        order = λ i j l h. elim (place j h) [
          | inl m ↦ subst (λ u. Earlier u (device_spot k ws j)) (ap (λ u. spot_of k u.x u.y) (sym (old-at i (omega arith))))
              (subst (λ u. Earlier (device_spot k vs i) u) (ap (λ u. spot_of k u.x u.y) (sym (old-at j m))) (old.order i j l m))
          | inr z ↦
              let p = old.from i (omega arith) in
              subst (λ u. Earlier u (device_spot k ws j)) (ap (λ u. spot_of k u.x u.y) (sym (old-at i (omega arith))))
              (subst (λ u. Earlier (device_spot k vs i) u) (ap (λ u. spot_of k u.x u.y) (sym (new-at j z)))
              (subst (λ u. Earlier u (corner k ts n)) (sym p.2) (corner-order k d ts rs known.gated p.0 n p.1 within)))
        ];
        all = λ c h o. elim (cases_eq c n) [
          | inl z ↦ (length vs, omega (arith, length_push vs v), subst (λ m. device_spot k ws (length vs) ≡ corner k ts m) (sym z) (ap (λ u. spot_of k u.x u.y) (new-at (length vs) refl)))
          | inr z ↦
              let p = old.all c (omega arith) o in
              (p.0, omega (arith, p.1, length_push vs v), subst (λ u. spot_of k u.x u.y ≡ corner k ts c) (sym (old-at p.0 p.1)) p.2)
        ];
      }
        where
          v : Device
          v = record { x = (tile_at ts n).left; y = (tile_at ts n).top; one = one; other = other }

          ws : List Device
          ws = vs ++ v ∷ []

          place : (i : ℕ) → i < length ws → (i < length vs) ⊎ (i ≡ length vs)
          place i h = elim (cases_lt i (length vs)) [ inl l ↦ inl l | inr g ↦ inr (omega (arith, length_push vs v)) ]

          old-at : (i : ℕ) → i < length vs → device_at ws i ≡ device_at vs i
          old-at i l = get_or_append_left vs (v ∷ []) _ i l

          new-at : (i : ℕ) → i ≡ length vs → device_at ws i ≡ v
          new-at i z = get_or_push vs v _ i (sym z)

      -- before an odd channel all are devices
      pub going-odd : ends_of (get_or es n Isolated) ≡ None → OddAt k d (corner k ts n)
      going-odd e = record {
        first = root-first k d ts rs known.gated n within own;
        odd = judged-odd k d (corner k ts n) (get_or es n Isolated) (known.judged n within own) e;
        before = λ s h o.
            let p = channel-place k d ts rs known.gated s h in
            let below = earlier-tile k d ts rs known.gated n p.0 s within p.1 o in
            let r = root_of rs p.0 in
            let q = old.all r (omega (arith, known.gated.low p.0, below)) (known.gated.top p.0) in
            let u : Under k d (device_spot k vs q.0) s = subst (λ a. Under k d a s) (sym q.2)
            (known.gated.apart r p.0 (corner k ts r) s (corner-has k d ts rs known.gated r (omega (arith, within, known.gated.low p.0, below))) p.1 (known.gated.top p.0)) in
            (_, _, ends-move k d (device_spot k vs q.0) s _ _ u (old.each q.0 q.1).ends);
      }

    pub going-all : length ts ≤ n → Enumerated k d vs
    going-all past = record {
      each = old.each;
      order = old.order;
      all = λ s h.
          let p = channel-place k d ts rs known.gated s h in
          let inside = holds-within ts p.0 s.layer s.x s.y p.1 in
          let r = root_of rs p.0 in
          let low : r < length ts = omega (arith, known.gated.low p.0, inside) in
          let q = old.all r (omega arith) (known.gated.top p.0) in
          (q.0, q.1, subst (λ a. Under k d a s) (sym q.2) (known.gated.apart r p.0 (corner k ts r) s (corner-has k d ts rs known.gated r low) p.1 (known.gated.top p.0)));
    }
