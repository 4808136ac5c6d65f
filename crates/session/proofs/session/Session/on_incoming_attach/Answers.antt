use Rattle.std.proofs.Common.{[], ◌∷◌, refl, ap}
use Rattle.frames.specs.declared.link.LinkFrame.TheVariants.{Attach as AttachItem}
use Rattle.endpoint.specs.Endpoint.{relinked}
use Rattle.session.specs.Views.{endpoint_of}
use Rattle.session.proofs.session.Session.on_incoming_attach.Goals as goal

-- The handle is that of the attach. Nothing stands against the attach: not its name, nor the links, nor the room for the item.
pub returns : goal.returns
returns g c =
    let link = c.in_ok-link.link in
    let fits = c.in_ok-check_name.ensures in
    let found = c.in_ok-link.ensures in
    let told = c.in_ok-put.ensures in
    let same = c.from-handle.ensures in
    record {
      items = record { link = link; frame = AttachItem c.args.attach } ∷ [];
      added = told.1;
      tried = (
        rw (fits, ← same, found.0, told.0) refl,
        record {
          link = link;
          by_name = found.1;
          answer = refl;
          leads = record {
            keeper = refl;
            endpoint = rw (← same) (ap (λ t. relinked t (endpoint_of c.args.self.now)) c.attach.ensures);
            added = refl;
            told = refl;
          };
        },
      );
    }
