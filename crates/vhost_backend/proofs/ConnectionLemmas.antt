-- Each call of a connection is something that happens to it, or nothing.
use Rattle.std.proofs.Common.{◌≡◌, ◌∙◌, ℕ, Bool, true, false, List, [], ◌∷◌, ◌++◌, drop, if◌then◌else◌, refl, ap, sym, Result}
use Rattle.vhost_message.specs.BackendReq.{backend_reply}
use Rattle.vhost_message.specs.Header.{header_in}
use Rattle.vhost_message.specs.declared.backend_req.BackendReply.{BackendReply}
use Rattle.vhost_message.specs.declared.header.Header.{Header}
use Rattle.vhost_backend.specs.Backend.{BackendState}
use Rattle.vhost_backend.specs.BlockBackend.{came, hung_up}
use Rattle.vhost_backend.specs.BlockConnection.{as_negotiated, is_covered, looked_after, pages_in, taken_whole, with_backend, whole_reply}
use Rattle.vhost_backend.specs.ConnectionMemory.{with_behind, with_pages}
use Rattle.vhost_backend.specs.Messages.{Happening, after, stepped}
use Rattle.vhost_backend.specs.Whole.{Leads}
use Rattle.vhost_backend.specs.declared.block_backend.BlockBackend.{BlockBackend}
use Rattle.vhost_backend.specs.declared.deeds.Why.TheVariants.{Log}
use Rattle.vhost_backend.specs.declared.block_connection.BlockConnection.{BlockConnection}
use Rattle.vhost_backend.proofs.WholeLemmas.{hung_up_leads, stays}
use Rattle.vhost_user.specs.Features.{access_platform, has}
use Rattle.vhost_message.specs.declared.refusal.Refusal.{Refusal}
use Rattle.vhost_user.specs.Log.{log_kept}

pub reply_is : (m payload : List ℕ) (h : Header) (r : Result BackendReply Refusal) → h ≡ header_in m → payload ≡ drop 12 m
    → r ≡ backend_reply h payload → r ≡ whole_reply m
unfolding whole_reply
reply_is m payload h r is whole decoded =
    decoded ∙ ap (λ (x : Header). backend_reply x payload) is
    ∙ ap (λ (p : List ℕ). backend_reply (header_in m) p) whole

after_more : (xs ys : List Happening) (b : BackendState) → after (xs ++ ys) b ≡ after ys (after xs b)
after_more [] ys b = refl
after_more (x ∷ xs) ys b = after_more xs ys (stepped b x)

pub leads_on : (b c d : BackendState) → Leads b c → Leads c d → Leads b d
leads_on b c d (xs, is) (ys, js) = (xs ++ ys, js ∙ ap (λ v. after ys v) is ∙ sym (after_more xs ys b))

log_leads : (c : BlockConnection) → Leads c.backend.backend (as_negotiated c).backend.backend
log_leads c = go (is_covered c.backend.backend.connection)
  where
    logs : BlockConnection
    logs = record c {
      memory = with_behind (with_pages c.memory (record c.memory.logged.pages {
        pages = pages_in (log_kept c.backend.backend.connection);
      })) (has c.backend.backend.connection.features access_platform);
    }

    go : (v : Bool) → Leads c.backend.backend
        (if v then logs else with_backend logs (hung_up logs.backend Log)).backend.backend
    go true = stays c.backend.backend
    go false = hung_up_leads c.backend Log

pub looked_after_leads : (c : BlockConnection) → Leads c.backend.backend (looked_after c).backend.backend
looked_after_leads c = go c.backend.finished
  where
    seen : BlockConnection
    seen = with_backend c (record c.backend { finished = false })

    go : (v : Bool) → Leads c.backend.backend (if v then as_negotiated seen else seen).backend.backend
    go true = log_leads seen
    go false = stays c.backend.backend

-- ---- messages

pub taken_is : (c : BlockConnection) (w : BlockBackend) (r : Bool) (h : Header) (m xs : List ℕ) (descriptors : ℕ)
    → h ≡ header_in m → xs ≡ drop 12 m → (w, r) ≡ came c.backend h xs descriptors
    → (with_backend c w, r) ≡ taken_whole c m descriptors
taken_is c w r h m xs descriptors header payload is =
    ap (λ (t : BlockBackend × Bool). (with_backend c t.0, t.1))
    (is ∙ ap (λ (h : Header). came c.backend h xs descriptors) header
    ∙ ap (λ (ys : List ℕ). came c.backend (header_in m) ys descriptors) payload)
