-- A circuit is the same as itself; same goes back, and through a third. Assumes nothing.
use Rattle.std.proofs.Common.{◌≡◌, ℕ, ◌<◌, get_or, sym, refl, ap, ◌∙◌, inl, inr, arith}
use Rattle.circuits.specs.Laws.{BelowNets, SameSelf, SameBack, SameOn}

pub same_self : SameSelf
unfolding SameSelf
same_self m as' named none = record {
  net = λ x. x;
  net_back = λ x. x;
  device = λ x. x;
  device_back = λ x. x;
  nets = λ x h. (h, refl);
  nets_back = λ x h. (h, refl);
  devices = λ x h. (h, refl);
  devices_back = λ x h. (h, refl);
  keeps = λ x h. refl;
  gates = λ i h. refl;
  ends = λ i h. inl (refl, refl);
}

pub same_back : SameBack
unfolding SameBack BelowNets
same_back m n as' bs named none hm hn below s =
    let back : (x y : ℕ) → x < m → y ≡ s.net x → x ≡ s.net_back y = λ x y h e. sym (s.nets x h).1 ∙ ap s.net_back (sym e) in
    record {
      net = s.net_back;
      net_back = s.net;
      device = s.device_back;
      device_back = s.device;
      nets = s.nets_back;
      nets_back = s.nets;
      devices = s.devices_back;
      devices_back = s.devices;
      keeps = λ x h. ap s.net_back (sym (s.keeps x h)) ∙ (s.nets x (omega arith)).1;
      gates = λ j h.
          let w = s.devices_back j h in
          back _ _ (below (s.device_back j) w.0).0 (ap (λ k. (get_or bs k none).gate) (sym w.1) ∙ s.gates (s.device_back j) w.0);
      ends = λ j h.
          let w = s.devices_back j h in
          let v = below (s.device_back j) w.0 in
          elim (s.ends (s.device_back j) w.0) [
            | inl e ↦ inl (back _ _ v.1 (ap (λ k. (get_or bs k none).one) (sym w.1) ∙ e.0), back _ _ v.2 (ap (λ k. (get_or bs k none).other) (sym w.1) ∙ e.1))
            | inr e ↦ inr (back _ _ v.1 (ap (λ k. (get_or bs k none).other) (sym w.1) ∙ e.1), back _ _ v.2 (ap (λ k. (get_or bs k none).one) (sym w.1) ∙ e.0))
          ];
    }

pub same-on : SameOn
unfolding SameOn BelowNets
same-on l m n as' bs cs named none hl below s t = record {
  net = λ x. t.net (s.net x);
  net_back = λ x. s.net_back (t.net_back x);
  device = λ x. t.device (s.device x);
  device_back = λ x. s.device_back (t.device_back x);
  nets = λ x h. let w = s.nets x h in let v = t.nets _ w.0 in (v.0, ap s.net_back v.1 ∙ w.1);
  nets_back = λ x h. let w = t.nets_back x h in let v = s.nets_back _ w.0 in (v.0, ap t.net v.1 ∙ w.1);
  devices = λ x h. let w = s.devices x h in let v = t.devices _ w.0 in (v.0, ap s.device_back v.1 ∙ w.1);
  devices_back = λ x h. let w = t.devices_back x h in let v = s.devices_back _ w.0 in (v.0, ap t.device v.1 ∙ w.1);
  keeps = λ x h. ap t.net (s.keeps x h) ∙ t.keeps x h;
  gates = λ i h. t.gates (s.device i) (s.devices i h).0 ∙ ap t.net (s.gates i h);
  ends = λ i h. elim (t.ends (s.device i) (s.devices i h).0) [
    | inl e ↦ elim (s.ends i h) [
      | inl d ↦ inl (e.0 ∙ ap t.net d.0, e.1 ∙ ap t.net d.1)
      | inr d ↦ inr (e.0 ∙ ap t.net d.0, e.1 ∙ ap t.net d.1)
    ]
    | inr e ↦ elim (s.ends i h) [
      | inl d ↦ inr (e.0 ∙ ap t.net d.1, e.1 ∙ ap t.net d.0)
      | inr d ↦ inl (e.0 ∙ ap t.net d.1, e.1 ∙ ap t.net d.0)
    ]
  ];
}
