use Rattle.std.specs.Prelude.{◌≡◌, true, false, None, Some, [], ◌∷◌, refl}
use Rattle.dt_record.specs.declared.keys.Key.{Key}
use Rattle.dt_step.specs.declared.plans.Planned.TheVariants.{FenceI, FencesPages}
use Rattle.dt_windows.specs.Fences.{covers_page, is_instruction_fence, fence_at, last_fence}

-- Worked examples of the definitions (this project's own).

-- SFENCE.VMA of an address covers its page of 4 KiB and no other; of an address space alone it covers none that is known
fence_of_its_page : covers_page 0x8000_3abc (FencesPages (Some 0x8000_3008) false) ≡ true
fence_of_its_page = refl

fence_of_another_page : covers_page 0x8000_4000 (FencesPages (Some 0x8000_3008) false) ≡ false
fence_of_another_page = refl

fence_of_a_space : covers_page 0x8000_3abc (FencesPages None false) ≡ false
fence_of_a_space = refl

-- the last fence of a kind is found behind those of others
last_of_its_kind : (a b c : Key)
    → last_fence is_instruction_fence (fence_at FenceI a ∷ fence_at FenceI b ∷ fence_at (FencesPages None true) c ∷ []) ≡ Some b
last_of_its_kind a b c = refl
