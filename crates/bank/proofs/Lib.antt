mod ReloadFound
mod ReloadEach
