-- What is read of the words of a command is the command.
use Rattle.std.proofs.Common.{◌≡◌, ◌∙◌, ℕ, List, [], ◌∷◌, Some, None, ap, inl, inr, codes}
use Rattle.std.specs.Str.{bytes_eq}
use Rattle.std.proofs.lemmas.Option.{none-some}
use Rattle.vm_memory.specs.Words.{Each}
use Rattle.vm_memory.specs.Lines.{IsField, command_fields}
use Rattle.vm_memory.specs.LineReading.{command_at, access_at, transfer_at, other_at}
use Rattle.vm_memory.specs.declared.machine.command.Command.{Command}
use Rattle.vm_memory.specs.declared.machine.command.Command.TheVariants as command
use Rattle.vm_memory.proofs.SpellingLemmas.{chosen, same_word}
use Rattle.vm_memory.proofs.CommandWords.{from-layout, from-insert, from-remove, from-plain, from-memory, from-replace, from-enable, from-read, from-write, from-readx, from-writex, from-store, from-load, from-from, from-fromx, from-to, from-tox, from-check, from-copy, from-set, from-invalidate, from-clear, from-lookup, from-dirty, from-harvest}
use Rattle.vm_memory.proofs.CommandWords.{to-layout, to-insert, to-remove, to-plain, to-memory, to-replace, to-enable, to-read, to-write, to-readx, to-writex, to-store, to-load, to-from, to-fromx, to-to, to-tox, to-check, to-copy, to-set, to-invalidate, to-clear, to-lookup, to-dirty, to-harvest}

to-other : (first : List ℕ) (ws : List (List ℕ)) (c : Command) → other_at first ws ≡ Some (c, [])
    → Each IsField (first ∷ ws) (command_fields c)
unfolding other_at
to-other first ws c h0 =
    elim (chosen (bytes_eq first (codes "check")) _ _ (c, []) h0) [
      | inl here ↦ to-check first ws c (same_word first (codes "check") here.0) here.1
      | inr h1 ↦
          elim (chosen (bytes_eq first (codes "copy")) _ _ (c, []) h1.1) [
            | inl here ↦ to-copy first ws c (same_word first (codes "copy") here.0) here.1
            | inr h2 ↦
                elim (chosen (bytes_eq first (codes "set")) _ _ (c, []) h2.1) [
                  | inl here ↦ to-set first ws c (same_word first (codes "set") here.0) here.1
                  | inr h3 ↦
                      elim (chosen (bytes_eq first (codes "invalidate")) _ _ (c, []) h3.1) [
                        | inl here ↦ to-invalidate first ws c (same_word first (codes "invalidate") here.0) here.1
                        | inr h4 ↦
                            elim (chosen (bytes_eq first (codes "clear")) _ _ (c, []) h4.1) [
                              | inl here ↦ to-clear first ws c (same_word first (codes "clear") here.0) here.1
                              | inr h5 ↦
                                  elim (chosen (bytes_eq first (codes "lookup")) _ _ (c, []) h5.1) [
                                    | inl here ↦ to-lookup first ws c (same_word first (codes "lookup") here.0) here.1
                                    | inr h6 ↦
                                        elim (chosen (bytes_eq first (codes "dirty")) _ _ (c, []) h6.1) [
                                          | inl here ↦
                                              to-dirty first ws c (same_word first (codes "dirty") here.0) here.1
                                          | inr h7 ↦
                                              elim (chosen (bytes_eq first (codes "harvest")) _ None (c, []) h7.1) [
                                                | inl here ↦
                                                    to-harvest first ws c
                                                    (same_word first (codes "harvest") here.0) here.1
                                                | inr none ↦ absurd (none-some (c, []) none.1)
                                              ]
                                        ]
                                  ]
                            ]
                      ]
                ]
          ]
    ]

to-transfer : (first : List ℕ) (ws : List (List ℕ)) (c : Command) → transfer_at first ws ≡ Some (c, [])
    → Each IsField (first ∷ ws) (command_fields c)
unfolding transfer_at
to-transfer first ws c h0 =
    elim (chosen (bytes_eq first (codes "from")) _ _ (c, []) h0) [
      | inl here ↦ to-from first ws c (same_word first (codes "from") here.0) here.1
      | inr h1 ↦
          elim (chosen (bytes_eq first (codes "fromx")) _ _ (c, []) h1.1) [
            | inl here ↦ to-fromx first ws c (same_word first (codes "fromx") here.0) here.1
            | inr h2 ↦
                elim (chosen (bytes_eq first (codes "to")) _ _ (c, []) h2.1) [
                  | inl here ↦ to-to first ws c (same_word first (codes "to") here.0) here.1
                  | inr h3 ↦
                      elim (chosen (bytes_eq first (codes "tox")) _ _ (c, []) h3.1) [
                        | inl here ↦ to-tox first ws c (same_word first (codes "tox") here.0) here.1
                        | inr others ↦ to-other first ws c others.1
                      ]
                ]
          ]
    ]

to-access : (first : List ℕ) (ws : List (List ℕ)) (c : Command) → access_at first ws ≡ Some (c, [])
    → Each IsField (first ∷ ws) (command_fields c)
unfolding access_at
to-access first ws c h0 =
    elim (chosen (bytes_eq first (codes "read")) _ _ (c, []) h0) [
      | inl here ↦ to-read first ws c (same_word first (codes "read") here.0) here.1
      | inr h1 ↦
          elim (chosen (bytes_eq first (codes "write")) _ _ (c, []) h1.1) [
            | inl here ↦ to-write first ws c (same_word first (codes "write") here.0) here.1
            | inr h2 ↦
                elim (chosen (bytes_eq first (codes "readx")) _ _ (c, []) h2.1) [
                  | inl here ↦ to-readx first ws c (same_word first (codes "readx") here.0) here.1
                  | inr h3 ↦
                      elim (chosen (bytes_eq first (codes "writex")) _ _ (c, []) h3.1) [
                        | inl here ↦ to-writex first ws c (same_word first (codes "writex") here.0) here.1
                        | inr h4 ↦
                            elim (chosen (bytes_eq first (codes "store")) _ _ (c, []) h4.1) [
                              | inl here ↦ to-store first ws c (same_word first (codes "store") here.0) here.1
                              | inr h5 ↦
                                  elim (chosen (bytes_eq first (codes "load")) _ _ (c, []) h5.1) [
                                    | inl here ↦ to-load first ws c (same_word first (codes "load") here.0) here.1
                                    | inr others ↦ to-transfer first ws c others.1
                                  ]
                            ]
                      ]
                ]
          ]
    ]

to-command : (first : List ℕ) (ws : List (List ℕ)) (c : Command) → command_at first ws ≡ Some (c, [])
    → Each IsField (first ∷ ws) (command_fields c)
unfolding command_at
to-command first ws c h0 =
    elim (chosen (bytes_eq first (codes "layout")) _ _ (c, []) h0) [
      | inl here ↦ to-layout first ws c (same_word first (codes "layout") here.0) here.1
      | inr h1 ↦
          elim (chosen (bytes_eq first (codes "insert")) _ _ (c, []) h1.1) [
            | inl here ↦ to-insert first ws c (same_word first (codes "insert") here.0) here.1
            | inr h2 ↦
                elim (chosen (bytes_eq first (codes "remove")) _ _ (c, []) h2.1) [
                  | inl here ↦ to-remove first ws c (same_word first (codes "remove") here.0) here.1
                  | inr h3 ↦
                      elim (chosen (bytes_eq first (codes "plain")) _ _ (c, []) h3.1) [
                        | inl here ↦ to-plain first ws c (same_word first (codes "plain") here.0) here.1
                        | inr h4 ↦
                            elim (chosen (bytes_eq first (codes "memory")) _ _ (c, []) h4.1) [
                              | inl here ↦ to-memory first ws c (same_word first (codes "memory") here.0) here.1
                              | inr h5 ↦
                                  elim (chosen (bytes_eq first (codes "replace")) _ _ (c, []) h5.1) [
                                    | inl here ↦ to-replace first ws c (same_word first (codes "replace") here.0) here.1
                                    | inr h6 ↦
                                        elim (chosen (bytes_eq first (codes "enable")) _ _ (c, []) h6.1) [
                                          | inl here ↦
                                              to-enable first ws c (same_word first (codes "enable") here.0) here.1
                                          | inr others ↦ to-access first ws c others.1
                                        ]
                                  ]
                            ]
                      ]
                ]
          ]
    ]

pub command-to : (first : List ℕ) (ws : List (List ℕ)) (c : Command) → command_at first ws ≡ Some (c, [])
    → Each IsField (first ∷ ws) (command_fields c)
command-to = to-command

pub command-from : (first : List ℕ) (ws : List (List ℕ)) (c : Command) → Each IsField (first ∷ ws) (command_fields c)
    → command_at first ws ≡ Some (c, [])
unfolding command_at access_at transfer_at other_at
command-from first ws (command.FromRegions numbers) h = ap (λ f. command_at f ws) h.0 ∙ from-layout ws numbers h.1
command-from first ws (command.Insert layout region) h =
    ap (λ f. command_at f ws) h.0 ∙ from-insert ws layout region h.1
command-from first ws (command.Remove layout base size) h =
    ap (λ f. command_at f ws) h.0 ∙ from-remove ws layout base size h.1
command-from first ws (command.Plain layout) h =
    ap (λ f. command_at f ws) h.0 ∙ from-plain ws layout h.1
command-from first ws (command.NewMemory layout translator space on) h =
    ap (λ f. command_at f ws) h.0 ∙ from-memory ws layout translator space on h.1
command-from first ws (command.ReplaceBackend memory layout) h =
    ap (λ f. command_at f ws) h.0 ∙ from-replace ws memory layout h.1
command-from first ws (command.Enable memory on) h =
    ap (λ f. command_at f ws) h.0 ∙ from-enable ws memory on h.1
command-from first ws (command.Read memory addr count) h =
    ap (λ f. command_at f ws) h.0 ∙ from-read ws memory addr count h.1
command-from first ws (command.Write memory addr bs) h =
    ap (λ f. command_at f ws) h.0 ∙ from-write ws memory addr bs h.1
command-from first ws (command.ReadSlice memory addr count) h =
    ap (λ f. command_at f ws) h.0 ∙ from-readx ws memory addr count h.1
command-from first ws (command.WriteSlice memory addr bs) h =
    ap (λ f. command_at f ws) h.0 ∙ from-writex ws memory addr bs h.1
command-from first ws (command.Store memory width addr value) h =
    ap (λ f. command_at f ws) h.0 ∙ from-store ws memory width addr value h.1
command-from first ws (command.Load memory width addr) h =
    ap (λ f. command_at f ws) h.0 ∙ from-load ws memory width addr h.1
command-from first ws (command.ReadFrom memory addr count steps) h =
    ap (λ f. command_at f ws) h.0 ∙ from-from ws memory addr count steps h.1
command-from first ws (command.ReadExactFrom memory addr count steps) h =
    ap (λ f. command_at f ws) h.0 ∙ from-fromx ws memory addr count steps h.1
command-from first ws (command.WriteTo memory addr count steps) h =
    ap (λ f. command_at f ws) h.0 ∙ from-to ws memory addr count steps h.1
command-from first ws (command.WriteAllTo memory addr count steps) h =
    ap (λ f. command_at f ws) h.0 ∙ from-tox ws memory addr count steps h.1
command-from first ws (command.CheckRange memory addr count access) h =
    ap (λ f. command_at f ws) h.0 ∙ from-check ws memory addr count access h.1
command-from first ws (command.Copy from to) h =
    ap (λ f. command_at f ws) h.0 ∙ from-copy ws from to h.1
command-from first ws (command.Set table iova to length access) h =
    ap (λ f. command_at f ws) h.0 ∙ from-set ws table iova to length access h.1
command-from first ws (command.Invalidate table iova length) h =
    ap (λ f. command_at f ws) h.0 ∙ from-invalidate ws table iova length h.1
command-from first ws (command.InvalidateAll table) h =
    ap (λ f. command_at f ws) h.0 ∙ from-clear ws table h.1
command-from first ws (command.Lookup table iova length access) h =
    ap (λ f. command_at f ws) h.0 ∙ from-lookup ws table iova length access h.1
command-from first ws (command.Dirty id) h =
    ap (λ f. command_at f ws) h.0 ∙ from-dirty ws id h.1
command-from first ws (command.Harvest id) h =
    ap (λ f. command_at f ws) h.0 ∙ from-harvest ws id h.1
